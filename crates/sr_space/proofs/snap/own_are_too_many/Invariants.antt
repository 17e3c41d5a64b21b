use Rattle.std.proofs.Common.{◌≡◌, ◌+◌, drop, length}
use Rattle.sr_space.specs.steps.Snapping.{left_in, own_of, there_in}
use Rattle.sr_space.proofs.snap.own_are_too_many.Given as goal

abbrev pub invariant-loop-name : goal.invariant-loop-name
invariant-loop-name l =
    l.room + length (left_in l.dead l.stream.shown.entries l.group.shown.nacks)
    ≡ 4096 + length (there_in l.stream.shown.entries (own_of (drop l.name-index l.dead) l.group.shown.nacks))
