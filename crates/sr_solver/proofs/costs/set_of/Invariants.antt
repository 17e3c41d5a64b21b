use Rattle.std.proofs.Common.{ℕ, ◌<◌}
use Rattle.sr_solver.specs.Pairs.{pair_at}
use Rattle.sr_solver.specs.Sets.{IsIn}
use Rattle.sr_solver.proofs.costs.set_of.Given as goal

abbrev pub invariant-loop-pair : goal.invariant-loop-pair
invariant-loop-pair l = (j : ℕ) → j < l.pair-index → IsIn l.set (pair_at l.row j).consumer
