-- The keys of a server, in the order in which they were made, each with its stream.
-- Source: Redis documentation, "Streams", and the pages of XADD and XLEN.

use Rattle.std.specs.Prelude.{◌≡◌, ℕ, List, [], Option, Some, None, nat_eq, map}
use Rattle.std.specs.Cmp.Lexicographic.{pointwise}
use Rattle.std.specs.Map.{lookup}
use Rattle.std.specs.Option.{option_and_then, option_map}
use Rattle.indexmap.specs.IndexMap.{insert_entry}
use Rattle.sr_entries.specs.declared.entry.Entry.{Entry}
use Rattle.sr_group.specs.{GroupState}
use Rattle.sr_stream.specs.{group_with, StreamState, KeptStream, IsStream}

abbrev pub Key : Type 0
Key = List ℕ

abbrev pub Keys : Type 0
Keys = List (Key × StreamState)

-- the stream at a key, if the key is there
abbrev pub stream_at : Keys → Key → Option StreamState
stream_at keys key = lookup (pointwise nat_eq key) keys

-- the group of this name at a key, if the key and the group are there
abbrev pub group_at : Keys → Key → List ℕ → Option GroupState
group_at keys key name = option_and_then (λ (stream : StreamState). group_with name stream.groups) (stream_at keys key)

-- the entries of a stream that was found; none if the key is missing
abbrev pub entries_of : Option StreamState → List Entry
entries_of None = []
entries_of (Some stream) = stream.entries

-- what is shown of a stream, if there is one
abbrev pub shown_of : Option KeptStream → Option StreamState
shown_of kept = option_map (λ (k : KeptStream). k.shown) kept

-- the keys with this stream at a key: in the place of the one that it had, or after the others if the key is new
abbrev pub with_stream : Keys → Key → StreamState → Keys
with_stream keys key stream = insert_entry (pointwise nat_eq) keys key stream

-- what is shown of stored keys: all but the rooms of their streams
abbrev pub shown_keys : List (Key × KeptStream) → Keys
shown_keys stored = map (λ pair. (pair.0, pair.1.shown)) stored

-- the stream at each key is one whose entries rise up to its last id
abbrev pub AreStreams : Keys → Type 0
AreStreams keys = (key : Key) (stream : StreamState) → stream_at keys key ≡ Some stream → IsStream stream
