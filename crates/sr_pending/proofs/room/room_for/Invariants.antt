use Rattle.std.proofs.Common.{◌≡◌, take}
use Rattle.sr_pending.specs.Pending.{room_left}
use Rattle.sr_pending.proofs.room.room_for.Given as goal

abbrev pub invariant-loop-room : goal.invariant-loop-room
invariant-loop-room l = l.all ≡ room_left l.owner (take l.room-index l.rooms)
