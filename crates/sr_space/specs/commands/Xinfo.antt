-- XINFO tells of a stream, of its groups, and of the consumers of a group. Each map is a flat array of names and
-- values.
-- Source: Redis documentation, the pages of XINFO STREAM, XINFO GROUPS and XINFO CONSUMERS.

use Rattle.std.specs.Prelude.{ℕ, ◌-◌, List, [], ◌∷◌, length, map, Option, Some, None, codes, pos, slice_get}
use Rattle.sr_entries.specs.declared.entry.Entry.{Entry}
use Rattle.sr_group.specs.declared.consumer.Consumer.{Consumer}
use Rattle.sr_group.specs.{GroupState}
use Rattle.sr_ids.specs.{spelling}
use Rattle.sr_pending.specs.declared.nack.Nack.{Nack}
use Rattle.sr_pending.specs.{owned_by}
use Rattle.sr_resp.specs.declared.code.ErrCode.TheVariants as errors
use Rattle.sr_resp.specs.{ReplyParts, array_of, bulk_string, error_reply, integer}
use Rattle.sr_resp.specs.Reply.{null_string}
use Rattle.sr_stream.specs.{group_with, StreamState}
use Rattle.sr_space.specs.EntryReply.{entry_answer}

-- a number as it is replied
abbrev pub number : ℕ → ReplyParts
number n = integer (pos n)

-- the entry, or the null bulk string
abbrev pub entry_or_null : Option Entry → ReplyParts
entry_or_null None = null_string
entry_or_null (Some entry) = entry_answer entry

abbrev pub first_entry : List Entry → Option Entry
first_entry entries = slice_get entries 0

abbrev pub last_entry : List Entry → Option Entry
last_entry entries = slice_get entries (length entries - 1)

-- STREAM
abbrev pub stream_answer : StreamState → ReplyParts
stream_answer stream = array_of (
    bulk_string (codes "length") ∷ number (length stream.entries)
    ∷ bulk_string (codes "last-generated-id") ∷ bulk_string (spelling stream.last)
    ∷ bulk_string (codes "entries-added") ∷ number stream.added
    ∷ bulk_string (codes "groups") ∷ number (length stream.groups)
    ∷ bulk_string (codes "first-entry") ∷ entry_or_null (first_entry stream.entries)
    ∷ bulk_string (codes "last-entry") ∷ entry_or_null (last_entry stream.entries)
    ∷ [])

abbrev pub xinfo_stream : Option StreamState → ReplyParts
xinfo_stream None = error_reply errors.NoKey
xinfo_stream (Some stream) = stream_answer stream

-- GROUPS: a line for each group
abbrev pub group_answer : List ℕ → GroupState → ReplyParts
group_answer name group = array_of (
    bulk_string (codes "name") ∷ bulk_string name
    ∷ bulk_string (codes "consumers") ∷ number (length group.consumers)
    ∷ bulk_string (codes "pending") ∷ number (length group.nacks)
    ∷ bulk_string (codes "last-delivered-id") ∷ bulk_string (spelling group.last)
    ∷ [])

abbrev pub xinfo_groups : Option StreamState → ReplyParts
xinfo_groups None = error_reply errors.NoKey
xinfo_groups (Some stream) = array_of (map (λ named. group_answer named.0 named.1) stream.groups)

-- CONSUMERS: a line for each consumer, which was idle since it was seen last
abbrev pub consumer_line : ℕ → ℕ → Consumer → ReplyParts
consumer_line moment pending consumer = array_of (
    bulk_string (codes "name") ∷ bulk_string consumer.name
    ∷ bulk_string (codes "pending") ∷ number pending
    ∷ bulk_string (codes "idle") ∷ number (moment - consumer.seen)
    ∷ [])

abbrev pub consumer_answer : ℕ → List Nack → Consumer → ReplyParts
consumer_answer moment nacks consumer = consumer_line moment (length (owned_by consumer.name nacks)) consumer

abbrev pub consumers_answer : ℕ → Option GroupState → ReplyParts
consumers_answer moment None = error_reply errors.NoGroup
consumers_answer moment (Some group) = array_of (map (consumer_answer moment group.nacks) group.consumers)

abbrev pub xinfo_consumers : ℕ → List ℕ → Option StreamState → ReplyParts
xinfo_consumers moment group None = error_reply errors.NoKey
xinfo_consumers moment group (Some stream) = consumers_answer moment (group_with group stream.groups)
