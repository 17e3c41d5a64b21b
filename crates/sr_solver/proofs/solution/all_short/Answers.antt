use Rattle.std.proofs.Common.{arith}
use Rattle.sr_solver.proofs.ShortageLemmas.{all_are_short}
use Rattle.sr_solver.proofs.solution.all_short.Goals as goal

pub returns : goal.returns
returns c =
    all_are_short c.args.problem.now c.in_ok-set.set.items (omega (arith, c.entries.ensures, c.places.ensures))
    (rw c.entries-2.ensures at c.in_ok-set.ensures)
