use Rattle.std.proofs.Common.{◌≡◌, map, take}
use Rattle.sr_space.specs.steps.Snapping.{own_of}
use Rattle.sr_space.proofs.snap.left_and_live.pending_of_dead.Given as goal

abbrev pub invariant-loop-name : goal.invariant-loop-name
invariant-loop-name l = map (λ nack. nack.now) l.list.items ≡ own_of (take l.name-index l.dead) l.group.shown.nacks
