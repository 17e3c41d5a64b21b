-- XREADGROUP delivers new entries of streams to a consumer of a group, or lists once more what is pending for it.
-- Source: Redis documentation, the page of XREADGROUP.

use Rattle.std.specs.Prelude.{ℕ, List, [], ◌∷◌, map, Option, Some, None, Bool, true, false, ◌&&◌, if◌then◌else◌}
use Rattle.std.specs.List.{flat_map}
use Rattle.sr_ids.specs.declared.id.Id.{Id}
use Rattle.sr_ids.specs.{spelling}
use Rattle.sr_args.specs.declared.reads.ReadAsked.{ReadAsked}
use Rattle.sr_args.specs.declared.reads.ReadAsked.TheVariants as asked
use Rattle.sr_entries.specs.declared.entry.Entry.{Entry}
use Rattle.sr_entries.specs.{entry_with}
use Rattle.sr_group.specs.{history_of, new_entries, GroupState}
use Rattle.sr_group.specs.Delivery.{after_delivery, after_history}
use Rattle.sr_pending.specs.declared.nack.Nack.{Nack}
use Rattle.sr_resp.specs.declared.code.ErrCode.TheVariants as errors
use Rattle.sr_resp.specs.{ReplyParts, array_of, bulk_string, error_reply}
use Rattle.sr_resp.specs.Reply.{null_array}
use Rattle.sr_stream.specs.{group_with, has_group, StreamState}
use Rattle.sr_space.specs.EntryReply.{entry_answer}
use Rattle.sr_space.specs.Grouped.{regrouped}
use Rattle.sr_space.specs.Keys.{Key, Keys, stream_at}
use Rattle.sr_space.specs.Touched.{Executed, left_at, unchanged}
use Rattle.sr_space.specs.commands.Xread.{entries_of_key, listed_or_null}

-- what a read leaves of a group, and what it lists of its stream
pub record GroupRead : Type 0 where
  pub group : GroupState
  pub listed : List ReplyParts

-- a pending entry as it is listed: the entry, or [id, null array] if the stream has it no longer
abbrev pub again_answer : Id → Option Entry → ReplyParts
again_answer id None = array_of (bulk_string (spelling id) ∷ null_array ∷ [])
again_answer id (Some entry) = entry_answer entry

-- [key, pending entries], even if there are none
abbrev pub history_answer : Key → List Entry → List Nack → ReplyParts
history_answer key entries history =
    array_of (bulk_string key ∷ array_of (map (λ nack. again_answer nack.id (entry_with nack.id entries)) history) ∷ [])

-- what a command on several streams leaves of one of them, if it writes there, and what it lists of it
pub record StreamRead : Type 0 where
  pub written : Option StreamState
  pub listed : List ReplyParts

-- the stream has the group
abbrev pub has_group_in : List ℕ → Option StreamState → Bool
has_group_in name None = false
has_group_in name (Some stream) = has_group name stream.groups

-- each of the keys has a stream with the group
abbrev pub have_group : List ℕ → Keys → List (Key × ReadAsked) → Bool
have_group name keys [] = true
have_group name keys (stream ∷ streams) = has_group_in name (stream_at keys stream.0) && have_group name keys streams

module _ (moment : ℕ) (name consumer : List ℕ) (count : Option ℕ) (no_ack : Bool) where
  -- `>`: entries that the group has not delivered yet are delivered, and listed if there are some. A written id: what
  -- is pending for the consumer above it is listed, and counts as delivered once more.
  abbrev pub read_group : ReadAsked → Key → List Entry → GroupState → GroupRead
  read_group asked.New key entries group =
      let new = new_entries group.last count entries in
      record { group = after_delivery consumer moment no_ack new group; listed = entries_of_key key new }
  read_group (asked.PendingAfter id) key entries group =
      let history = history_of consumer id count group.nacks in
      record {
        group = after_history consumer moment entries history group;
        listed = history_answer key entries history ∷ [];
      }

  abbrev pub read_in : Key → StreamState → GroupRead → StreamRead
  read_in key stream read = record { written = regrouped name stream (Some read.group); listed = read.listed }

  abbrev pub read_found : ReadAsked → Key → StreamState → Option GroupState → StreamRead
  read_found asked key stream None = record { written = None; listed = [] }
  read_found asked key stream (Some group) = read_in key stream (read_group asked key stream.entries group)

  -- one stream of the call, if it is there and has the group
  abbrev pub read_stream : ReadAsked → Key → Option StreamState → StreamRead
  read_stream asked key None = record { written = None; listed = [] }
  read_stream asked key (Some stream) = read_found asked key stream (group_with name stream.groups)

  -- what is listed of the streams, in the order in which they are named
  abbrev pub listed_of_all : Keys → List (Key × ReadAsked) → List ReplyParts
  listed_of_all keys streams = flat_map (λ stream. (read_stream stream.1 stream.0 (stream_at keys stream.0)).listed)
      streams

  -- the keys with what is written of each stream. Streams are named once each, so that none sees what another leaves.
  abbrev pub after_reads : Keys → List (Key × ReadAsked) → Keys
  after_reads keys [] = keys
  after_reads keys (stream ∷ streams) =
      left_at (after_reads keys streams) stream.0 (read_stream stream.1 stream.0 (stream_at keys stream.0)).written

  -- if a key or its group is missing, nothing is read
  abbrev pub xreadgroup : List (Key × ReadAsked) → Keys → Executed
  xreadgroup streams keys =
      if have_group name keys streams
      then record { keys = after_reads keys streams; outcome = listed_or_null (listed_of_all keys streams) }
      else unchanged keys (error_reply errors.NoGroup)
