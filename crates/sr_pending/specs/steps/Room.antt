-- Rooms as they are kept: a list in which an owner may appear more than once. No public clause cites it.

use Rattle.std.specs.Prelude.{◌≡◌, ℕ, ◌+◌, ◌<◌, ◌≢◌, List, Some, true, slice_get}
use Rattle.std.specs.List.{sum_by}
use Rattle.sr_pending.specs.declared.room.Room.{Room}
use Rattle.sr_pending.specs.Pending.{is_same_name, room_left}

-- the rooms of all owners together
abbrev pub rooms_in_all : List Room → ℕ
rooms_in_all rooms = sum_by (λ room. room.left) rooms

-- a room of this owner's lies at this place, and is not used up
pub record IsRoomAt (owner : List ℕ) (rooms : List Room) (place : ℕ) : Type 0 where
  pub room : Room
  pub here : slice_get rooms place ≡ Some room
  pub same : is_same_name room.owner owner ≡ true
  pub some : 0 < room.left

-- this owner has so much more room, and no other
pub record AddsRoom (owner : List ℕ) (more : ℕ) (old new : List Room) : Type 0 where
  pub added : room_left owner new ≡ room_left owner old + more
  pub others : (other : List ℕ) → other ≢ owner → room_left other new ≡ room_left other old
  pub in_all : rooms_in_all new ≡ rooms_in_all old + more
