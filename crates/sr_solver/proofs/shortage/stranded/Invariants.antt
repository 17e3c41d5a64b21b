use Rattle.std.proofs.Common.{◌≡◌}
use Rattle.sr_solver.specs.Shortage.{stranded_below}
use Rattle.sr_solver.proofs.shortage.stranded.Given as goal

abbrev pub invariant-loop-other : goal.invariant-loop-other
invariant-loop-other l = l.set.items ≡ stranded_below l.labels l.assign l.other
