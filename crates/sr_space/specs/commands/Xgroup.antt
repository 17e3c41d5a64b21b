-- XGROUP makes a group, moves what it delivered last, and removes it; and it makes and removes consumers of a group.
-- Source: Redis documentation, the pages of XGROUP CREATE, XGROUP SETID, XGROUP DESTROY, XGROUP CREATECONSUMER and
-- XGROUP DELCONSUMER.

use Rattle.std.specs.Prelude.{ℕ, List, length, Option, Some, None, Bool, true, false, not, if◌then◌else◌, pos}
use Rattle.sr_ids.specs.declared.id.Id.{Id}
use Rattle.sr_args.specs.declared.call.Position.{Position}
use Rattle.sr_args.specs.declared.call.Position.TheVariants.{Last, At}
use Rattle.sr_entries.specs.declared.entry.Entry.{Entry}
use Rattle.sr_group.specs.{GroupState, new_group}
use Rattle.sr_group.specs.Group.{has_consumer, made_at, without_consumer}
use Rattle.sr_pending.specs.{owned_by}
use Rattle.sr_pending.specs.Pending.{without_owner}
use Rattle.sr_resp.specs.declared.code.ErrCode.TheVariants as errors
use Rattle.sr_resp.specs.declared.code.Word.TheVariants as words
use Rattle.sr_resp.specs.{ReplyParts, integer}
use Rattle.sr_resp.specs.Reply.{simple_string}
use Rattle.sr_stream.specs.{has_group, with_group, StreamState, empty_stream, with_groups}
use Rattle.sr_stream.specs.Groups.{with_last, without_group}
use Rattle.sr_space.specs.declared.grouped.Missing.TheVariants.{NoKey}
use Rattle.sr_space.specs.Grouped.{Regrouped, in_group, regroups}
use Rattle.sr_space.specs.Touched.{Touched, refuses, writes}

-- the id of a position in the stream: the last one that it gave, or the written one
abbrev pub id_of : Position → StreamState → Id
id_of Last stream = stream.last
id_of (At id) stream = id

-- 1 for yes, 0 for no
abbrev pub yes_or_no : Bool → ReplyParts
yes_or_no true = integer (pos 1)
yes_or_no false = integer (pos 0)

-- the group is made, unless the stream has one of this name
abbrev pub made_in : List ℕ → Position → StreamState → Touched
made_in group from stream =
    if has_group group stream.groups then refuses errors.BusyGroup
    else writes (with_groups (with_group group (new_group (id_of from stream)) stream.groups) stream)
    (simple_string words.Ok)

-- CREATE: with MKSTREAM a missing key is made, with an empty stream
abbrev pub xgroup_create : List ℕ → Position → Bool → Option StreamState → Touched
xgroup_create group from make (Some stream) = made_in group from stream
xgroup_create group from true None = made_in group from empty_stream
xgroup_create group from false None = refuses errors.NoKey

-- SETID: the pending entries stay
abbrev pub xgroup_set_id : List ℕ → Position → Option StreamState → Touched
xgroup_set_id group from None = refuses errors.NoKey
xgroup_set_id group from (Some stream) =
    if has_group group stream.groups
    then writes (with_groups (with_last group (id_of from stream) stream.groups) stream) (simple_string words.Ok)
    else refuses errors.NoGroup

-- DESTROY: the group goes with its consumers and its pending entries
abbrev pub xgroup_destroy : List ℕ → Option StreamState → Touched
xgroup_destroy group None = refuses errors.NoKey
xgroup_destroy group (Some stream) =
    writes (with_groups (without_group group stream.groups) stream) (yes_or_no (has_group group stream.groups))

-- CREATECONSUMER: the consumer is made at the moment, if it is not there
abbrev pub consumer_made : ℕ → List ℕ → List Entry → GroupState → Regrouped
consumer_made moment consumer entries group =
    regroups (record group { consumers = made_at consumer moment group.consumers })
    (yes_or_no (not (has_consumer consumer group.consumers)))

abbrev pub xgroup_create_consumer : ℕ → List ℕ → List ℕ → Option StreamState → Touched
xgroup_create_consumer moment group consumer = in_group NoKey (consumer_made moment consumer) group

-- DELCONSUMER: the consumer goes with its pending entries, and their number is replied
abbrev pub consumer_removed : List ℕ → List Entry → GroupState → Regrouped
consumer_removed consumer entries group =
    regroups (record group {
      consumers = without_consumer consumer group.consumers;
      nacks = without_owner consumer group.nacks;
    })
    (integer (pos (length (owned_by consumer group.nacks))))

abbrev pub xgroup_del_consumer : List ℕ → List ℕ → Option StreamState → Touched
xgroup_del_consumer group consumer = in_group NoKey (consumer_removed consumer) group
