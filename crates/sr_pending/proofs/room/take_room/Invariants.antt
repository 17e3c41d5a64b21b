use Rattle.std.proofs.Common.{◌≡◌, ◌≢◌, ◌+◌, ◌≤◌, ℕ, List}
use Rattle.sr_pending.specs.Pending.{room_left}
use Rattle.sr_pending.specs.steps.Room.{rooms_in_all}
use Rattle.sr_pending.proofs.room.take_room.Given as goal

abbrev pub invariant-loop-left : goal.invariant-loop-left
invariant-loop-left l =
    (room_left l.owner l.rooms.items + l.n ≡ room_left l.owner l.initial.rooms.items + l.left)
    × ((other : List ℕ) → other ≢ l.owner → room_left other l.rooms.items ≡ room_left other l.initial.rooms.items)
    × (rooms_in_all l.rooms.items ≤ rooms_in_all l.initial.rooms.items)

abbrev pub decreases-loop-left : goal.decreases-loop-left
decreases-loop-left l = l.left
