use Rattle.std.proofs.Common.{◌≡◌, take}
use Rattle.sr_pending.specs.steps.Room.{rooms_in_all}
use Rattle.sr_pending.proofs.room.in_all.Given as goal

abbrev pub invariant-loop-room : goal.invariant-loop-room
invariant-loop-room l = l.all ≡ rooms_in_all (take l.room-index l.rooms)
