-- The room that moves need and use. No public clause cites it.

use Rattle.std.specs.Prelude.{◌≡◌, ◌≢◌, ℕ, ◌+◌, ◌≤◌, List, [], ◌∷◌, if◌then◌else◌, length}
use Rattle.sr_pending.specs.declared.room.Room.{Room}
use Rattle.sr_pending.specs.{is_same_name, room_left}
use Rattle.sr_group.specs.Claim.{MoveState}

-- for how many entries this owner needs room
abbrev pub needed : List ℕ → List MoveState → ℕ
needed owner [] = 0
needed owner (move ∷ moves) = (if is_same_name move.claimer owner then length move.ids else 0) + needed owner moves

-- each owner has room for all these moves, beside the room that it had
abbrev pub HaveRooms : List MoveState → List Room → List Room → Type 0
HaveRooms moves old new = (owner : List ℕ) → room_left owner old + needed owner moves ≤ room_left owner new

-- each owner has room for all these moves, just beside the room that it had
abbrev pub AddsRooms : List MoveState → List Room → List Room → Type 0
AddsRooms moves old new = (owner : List ℕ) → room_left owner new ≡ room_left owner old + needed owner moves

-- room for n entries of this owner, at most, is used up, and none of another owner's
pub record Spends (owner : List ℕ) (n : ℕ) (old new : List Room) : Type 0 where
  pub own : room_left owner old ≤ room_left owner new + n
  pub others : (other : List ℕ) → other ≢ owner → room_left other new ≡ room_left other old
