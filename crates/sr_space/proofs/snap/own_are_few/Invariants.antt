use Rattle.std.proofs.Common.{◌≡◌, ◌+◌, drop, length}
use Rattle.sr_space.specs.Snap.{of_dead}
use Rattle.sr_space.specs.steps.Snapping.{own_of}
use Rattle.sr_space.proofs.snap.own_are_few.Given as goal

abbrev pub invariant-loop-name : goal.invariant-loop-name
invariant-loop-name l =
    l.room + length (of_dead l.dead l.group.shown.nacks) ≡ 4096 + length (own_of (drop l.name-index l.dead) l.group.shown.nacks)
