use Rattle.std.proofs.Common.{◌≡◌, ◌+◌, length}
use Rattle.sr_space.specs.steps.Snapping.{left_in}
use Rattle.sr_space.proofs.snap.are_too_many.Given as goal

abbrev pub invariant-loop-nack : goal.invariant-loop-nack
invariant-loop-nack l =
    l.room + length (left_in l.dead l.stream.shown.entries l.group.shown.nacks) ≡ 4096 + length (left_in l.dead l.stream.shown.entries l.nacks)

abbrev pub decreases-loop-nack : goal.decreases-loop-nack
decreases-loop-nack l = length l.nacks
