use Rattle.std.proofs.Common.{◌≡◌, take}
use Rattle.sr_pending.specs.Pending.{room_left}
use Rattle.sr_pending.proofs.room.place_of_room.Given as goal

abbrev pub invariant-loop-place : goal.invariant-loop-place
invariant-loop-place l = room_left l.owner (take l.place l.rooms) ≡ 0
