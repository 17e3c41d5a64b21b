-- Private clauses alone cite this: what a read of a group has ready to be shown, in its stream and at its key.

use Rattle.std.specs.Prelude.{◌≡◌, ◌≢◌, ℕ, IsTrue, List, [], ◌∷◌, Option, Some, None, nat_eq, map}
use Rattle.std.specs.Cmp.Lexicographic.{pointwise}
use Rattle.std.specs.Map.{lookup}
use Rattle.sr_args.specs.declared.reads.ReadAsked.{ReadAsked}
use Rattle.sr_args.specs.{IsAmong}
use Rattle.sr_entries.specs.declared.entry.Entry.{Entry}
use Rattle.sr_entries.specs.{entry_with}
use Rattle.sr_group.specs.declared.shown.Listed.{Listed}
use Rattle.sr_group.specs.{GroupState, KeptGroup, HasRoomFor, after_showing}
use Rattle.sr_group.specs.Shown.{ShownState}
use Rattle.sr_resp.specs.{ReplyParts, array_of, bulk_string}
use Rattle.sr_stream.specs.{group_with, has_group, with_group, StreamState, KeptStream, with_groups}
use Rattle.sr_space.specs.declared.commands.xreadgroup.GroupRead.{GroupRead}
use Rattle.sr_space.specs.Bounds.{in_63_bits}
use Rattle.sr_space.specs.Keys.{Key, Keys}
use Rattle.sr_space.specs.Touched.{Executed}
use Rattle.sr_space.specs.commands.Xread.{count_of}
use Rattle.sr_space.specs.commands.Xreadgroup as xreadgroup

-- keys as they are stored, with the rooms of their streams
abbrev pub Stored : Type 0
Stored = List (Key × KeptStream)

abbrev pub kept_at : Stored → Key → Option KeptStream
kept_at stored key = lookup (pointwise nat_eq key) stored

-- what the definitions of XREADGROUP say of a read with these fields: in a group, in a stream, and of the keys
abbrev pub in_group : GroupRead → ReadAsked → Key → List Entry → GroupState → xreadgroup.GroupRead
in_group r = xreadgroup.read_group (in_63_bits r.moment) r.group.now r.consumer.now (count_of r.count) r.no_ack

abbrev pub in_stream : GroupRead → ReadAsked → Key → Option StreamState → xreadgroup.StreamRead
in_stream r = xreadgroup.read_stream (in_63_bits r.moment) r.group.now r.consumer.now (count_of r.count) r.no_ack

abbrev pub listed_by : GroupRead → Keys → List (Key × ReadAsked) → List ReplyParts
listed_by r = xreadgroup.listed_of_all (in_63_bits r.moment) r.group.now r.consumer.now (count_of r.count) r.no_ack

abbrev pub keys_after : GroupRead → Keys → List (Key × ReadAsked) → Keys
keys_after r = xreadgroup.after_reads (in_63_bits r.moment) r.group.now r.consumer.now (count_of r.count) r.no_ack

abbrev pub by_read : GroupRead → List (Key × ReadAsked) → Keys → Executed
by_read r = xreadgroup.xreadgroup (in_63_bits r.moment) r.group.now r.consumer.now (count_of r.count) r.no_ack

-- a key with pending entries that are listed
abbrev pub history_item : Key → List Entry → List Listed → ReplyParts
history_item key entries listed =
    array_of (bulk_string key
    ∷ array_of (map (λ item. xreadgroup.again_answer item.id (entry_with item.id entries)) listed) ∷ [])

-- a stream whose group has changed as a call shows
abbrev pub with_shown : List ℕ → ShownState → StreamState → Option GroupState → StreamState
with_shown name shown stream None = stream
with_shown name shown stream (Some group) =
    with_groups (with_group name (after_showing shown group) stream.groups) stream

abbrev pub after_call : List ℕ → ShownState → StreamState → StreamState
after_call name shown stream = with_shown name shown stream (group_with name stream.groups)

-- the stream's group of this name has room for what is shown
pub record HasRoomIn (name : List ℕ) (shown : ShownState) (kept : KeptStream) : Type 0 where
  pub group : KeptGroup
  pub found : group_with name kept.groups ≡ Some group
  pub room : HasRoomFor shown group
  pub has : IsTrue (has_group name kept.shown.groups)

-- and so does that of the stream at a key
pub record HasRoomAt (name : List ℕ) (shown : ShownState) (key : Key) (stored : Stored) : Type 0 where
  pub kept : KeptStream
  pub there : kept_at stored key ≡ Some kept
  pub room : HasRoomIn name shown kept

-- what is shown is what the read writes of the stream
abbrev pub Writes : GroupRead → ReadAsked → Key → ShownState → StreamState → Type 0
Writes r asked key shown stream =
    (in_stream r asked key (Some stream)).written ≡ Some (after_call r.group.now shown stream)

-- what is shown is what the read writes at the key
abbrev pub WritesAt : GroupRead → ReadAsked → Key → ShownState → Option StreamState → Type 0
WritesAt r asked key shown found = (stream : StreamState) → found ≡ Some stream → Writes r asked key shown stream

-- all other keys stay as they are stored
abbrev pub StayBeside : Key → Stored → Stored → Type 0
StayBeside key old new = (other : Key) → other ≢ key → kept_at new other ≡ kept_at old other

-- all keys but those that are named stay as they are stored
abbrev pub StayBesideAll : List Key → Stored → Stored → Type 0
StayBesideAll keys old new = (other : Key) → (IsAmong other keys → ⊥) → kept_at new other ≡ kept_at old other

-- the keys that are named
abbrev pub named_by : List (Key × ReadAsked) → List Key
named_by streams = map (λ stream. stream.0) streams
