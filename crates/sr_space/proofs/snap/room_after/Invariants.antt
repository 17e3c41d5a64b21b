use Rattle.std.proofs.Common.{◌≡◌, ◌+◌, length}
use Rattle.sr_space.specs.steps.Snapping.{there_in}
use Rattle.sr_space.proofs.snap.room_after.Given as goal

abbrev pub invariant-loop-nack : goal.invariant-loop-nack
invariant-loop-nack l =
    l.room + length (there_in l.stream.shown.entries l.initial.nacks) ≡ l.initial.room + length (there_in l.stream.shown.entries l.nacks)

abbrev pub decreases-loop-nack : goal.decreases-loop-nack
decreases-loop-nack l = length l.nacks
