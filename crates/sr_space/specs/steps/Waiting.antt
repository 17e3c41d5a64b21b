-- Private clauses alone cite this: which streams of a read have something to list now.

use Rattle.std.specs.Prelude.{ℕ, List, Option, Some, None, Bool, true, false, not, ◌||◌}
use Rattle.std.specs.List.{list_any}
use Rattle.sr_args.specs.declared.call.Position.{Position}
use Rattle.sr_args.specs.declared.reads.ReadAsked.{ReadAsked}
use Rattle.sr_args.specs.declared.reads.ReadAsked.TheVariants as asked
use Rattle.sr_entries.specs.declared.entry.Entry.{Entry}
use Rattle.sr_entries.specs.{entries_above}
use Rattle.sr_group.specs.{GroupState}
use Rattle.sr_stream.specs.{group_with, StreamState}
use Rattle.sr_space.specs.Blocking.{is_nothing}
use Rattle.sr_space.specs.Keys.{Key, Keys, entries_of, stream_at}
use Rattle.sr_space.specs.commands.Xread.{read_from}
use Rattle.sr_space.specs.commands.Xreadgroup.{has_group_in, have_group}

-- something is listed
abbrev pub is_something : {X : Type 0} → List X → Bool
is_something xs = not (is_nothing xs)

-- the stream, if there is one, has entries after this place
abbrev pub has_after : Position → Option StreamState → Bool
has_after from found = is_something (entries_above (read_from from found) (entries_of found))

-- one of the streams has entries after its place
abbrev pub any_after : Keys → List (Key × Position) → Bool
any_after keys streams = list_any (λ stream. has_after stream.1 (stream_at keys stream.0)) streams

-- a read of a group lists its stream: with `>` if there are entries that the group has not delivered yet, else always
abbrev pub lists_group : ReadAsked → List Entry → GroupState → Bool
lists_group asked.New entries group = is_something (entries_above group.last entries)
lists_group (asked.PendingAfter id) entries group = true

abbrev pub lists_found : ReadAsked → List Entry → Option GroupState → Bool
lists_found asked entries None = false
lists_found asked entries (Some group) = lists_group asked entries group

abbrev pub lists_stream : List ℕ → ReadAsked → Option StreamState → Bool
lists_stream name asked None = false
lists_stream name asked (Some stream) = lists_found asked stream.entries (group_with name stream.groups)

-- one of the streams is listed
abbrev pub lists_any : List ℕ → Keys → List (Key × ReadAsked) → Bool
lists_any name keys streams = list_any (λ stream. lists_stream name stream.1 (stream_at keys stream.0)) streams

-- a read of the group has an answer: the refusal, or what is listed
abbrev pub has_answer : List ℕ → Keys → List (Key × ReadAsked) → Bool
has_answer name keys streams = not (have_group name keys streams) || lists_any name keys streams

-- a stream gives a read of the group an answer: the refusal, or what is listed
abbrev pub answers_stream : List ℕ → ReadAsked → Option StreamState → Bool
answers_stream name asked found = not (has_group_in name found) || lists_stream name asked found

-- one of the streams does
abbrev pub any_answers : List ℕ → Keys → List (Key × ReadAsked) → Bool
any_answers name keys streams = list_any (λ stream. answers_stream name stream.1 (stream_at keys stream.0)) streams
