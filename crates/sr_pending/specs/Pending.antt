-- The pending entries of a consumer group: delivered to a consumer, and not acknowledged yet.
-- Source: Redis documentation, "Streams", section "Consumer groups", and the pages of XPENDING, XACK and XCLAIM.

use Rattle.std.specs.Prelude.{◌≡◌, ℕ, ◌+◌, ◌-◌, ◌^◌, ◌<◌, ◌≤◌, ◌≢◌, max, ⊤, List, [], ◌∷◌, ◌++◌, Option, Some, None}
use Rattle.std.specs.Prelude.{Bool, true, ◌&&◌, not, nat_eq, if◌then◌else◌}
use Rattle.std.specs.Prelude.{length, map, filter, take, slice_get}
use Rattle.std.specs.List.{list_any, sum_by}
use Rattle.std.specs.Option.{option_map}
use Rattle.std.specs.Cmp.Lexicographic.{pointwise}
use Rattle.sr_ids.specs.declared.id.Id.{Id}
use Rattle.sr_ids.specs.{IsBelow, is_below, is_same_id}
use Rattle.sr_pending.specs.declared.nack.Nack.{Nack}
use Rattle.sr_pending.specs.declared.room.Room.{Room}

-- what contracts see: the pending entries by rising id, and the room that was reserved for their owners
pub record PendingState : Type 0 where
  pub nacks : List Nack
  pub rooms : List Room

-- a and b are one name, as a test
abbrev pub is_same_name : List ℕ → List ℕ → Bool
is_same_name a b = pointwise nat_eq a b

-- for how many more entries of this owner there is room
abbrev pub room_left : List ℕ → List Room → ℕ
room_left owner rooms = sum_by (λ room. if is_same_name room.owner owner then room.left else 0) rooms

-- one place of this owner's room is used, and none of another owner's
pub record UsesRoom (owner : List ℕ) (old new : List Room) : Type 0 where
  pub used : room_left owner new + 1 ≡ room_left owner old
  pub others : (other : List ℕ) → other ≢ owner → room_left other new ≡ room_left other old

-- no owner has less room than before
abbrev pub KeepsRooms : List Room → List Room → Type 0
KeepsRooms old new = (owner : List ℕ) → room_left owner old ≤ room_left owner new

-- each owner has the room that it had
abbrev pub HaveSameRooms : List Room → List Room → Type 0
HaveSameRooms old new = (owner : List ℕ) → room_left owner new ≡ room_left owner old

-- this owner has room for n more, or what it had if that was more, and no other owner's room changes
pub record Reserves (owner : List ℕ) (n : ℕ) (old new : List Room) : Type 0 where
  pub owners : room_left owner new ≡ max n (room_left owner old)
  pub others : (other : List ℕ) → other ≢ owner → room_left other new ≡ room_left other old

-- this owner gives up n places of its room, and no other owner's room changes
pub record Releases (owner : List ℕ) (n : ℕ) (old new : List Room) : Type 0 where
  pub owners : room_left owner new + n ≡ room_left owner old
  pub others : (other : List ℕ) → other ≢ owner → room_left other new ≡ room_left other old

-- the id lies below all entries
abbrev pub AreAbove : Id → List Nack → Type 0
AreAbove id [] = ⊤
AreAbove id (nack ∷ nacks) = IsBelow id nack.id × AreAbove id nacks

-- each entry's id is above those before it
abbrev pub AreRising : List Nack → Type 0
AreRising [] = ⊤
AreRising (nack ∷ nacks) = AreAbove nack.id nacks × AreRising nacks

-- a delivery time and a delivery count that a reply can hold
abbrev pub IsCountable : Nack → Type 0
IsCountable nack = (nack.time < 2 ^ 63) × (nack.count < 2 ^ 63)

-- an entry with this id is pending
abbrev pub has_id : Id → List Nack → Bool
has_id id nacks = list_any (λ nack. is_same_id nack.id id) nacks

-- the pending entry with this id, if there is one
abbrev pub nack_with : Id → List Nack → Option Nack
nack_with id [] = None
nack_with id (nack ∷ nacks) = if is_same_id nack.id id then Some nack else nack_with id nacks

-- the least and the greatest pending id
abbrev pub least_pending : List Nack → Option Id
least_pending nacks = option_map (λ nack. nack.id) (slice_get nacks 0)

abbrev pub greatest_pending : List Nack → Option Id
greatest_pending nacks = option_map (λ nack. nack.id) (slice_get nacks (length nacks - 1))

-- the pending entries of one owner
abbrev pub owned_by : List ℕ → List Nack → List Nack
owned_by owner nacks = filter (λ nack. is_same_name nack.owner owner) nacks

-- it is this owner's, if one is named
abbrev pub is_of : Option (List ℕ) → Nack → Bool
is_of None nack = true
is_of (Some owner) nack = is_same_name nack.owner owner

-- those of the owner, if one is named
abbrev pub owned_by_named : Option (List ℕ) → List Nack → List Nack
owned_by_named owner nacks = filter (λ nack. is_of owner nack) nacks

-- the id lies in the range, both ends included
abbrev pub is_between : Id → Id → Id → Bool
is_between start end id = not (is_below id start) && not (is_below end id)

-- the pending entries of a range of ids, both ends included
abbrev pub pending_between : Id → Id → List Nack → List Nack
pending_between start end nacks = filter (λ nack. is_between start end nack.id) nacks

-- the pending entries above an id
abbrev pub pending_above : Id → List Nack → List Nack
pending_above id nacks = filter (λ nack. is_below id nack.id) nacks

-- at most this many from the front; all if no number is given
abbrev pub first_of : Option ℕ → List Nack → List Nack
first_of None nacks = nacks
first_of (Some n) nacks = take n nacks

-- with one more: those below its id, the new one, and those above its id
abbrev pub with_nack : Nack → List Nack → List Nack
with_nack nack nacks =
    filter (λ other. is_below other.id nack.id) nacks ++ nack ∷ filter (λ other. is_below nack.id other.id) nacks

-- an entry after it was delivered to this owner
abbrev pub redelivered : List ℕ → ℕ → ℕ → Nack → Nack
redelivered owner time count nack = record { id = nack.id; owner = owner; time = time; count = count }

-- the entry with this id is delivered to another owner
abbrev pub moved : Id → List ℕ → ℕ → ℕ → List Nack → List Nack
moved id owner time count nacks =
    map (λ nack. if is_same_id nack.id id then redelivered owner time count nack else nack) nacks

-- the entry with this id is delivered to its owner once more
abbrev pub touched : Id → ℕ → ℕ → List Nack → List Nack
touched id time count nacks =
    map (λ nack. if is_same_id nack.id id then redelivered nack.owner time count nack else nack) nacks

-- without the entry of this id
abbrev pub without : Id → List Nack → List Nack
without id nacks = filter (λ nack. not (is_same_id nack.id id)) nacks

-- without the entries of this owner
abbrev pub without_owner : List ℕ → List Nack → List Nack
without_owner owner nacks = filter (λ nack. not (is_same_name nack.owner owner)) nacks
