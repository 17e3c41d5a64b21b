use Rattle.std.proofs.Common.{length, ◌-◌, ◌≤◌}
use Rattle.sr_solver.specs.Exits.{AreNoNearer}
use Rattle.sr_solver.proofs.front.next_nearer.Given as goal

abbrev pub invariant-loop-other : goal.invariant-loop-other
invariant-loop-other l = record {
  from : l.first ≤ l.other;
  none : AreNoNearer l.exit l.pairs l.prices l.labels l.first l.other;
}

abbrev pub decreases-loop-other : goal.decreases-loop-other
decreases-loop-other l = length l.prices - l.other

abbrev pub invariant-loop-other-2 : goal.invariant-loop-other-2
invariant-loop-other-2 l = record {
  from : l.first ≤ l.other;
  none : AreNoNearer l.exit l.pairs l.prices l.labels l.first l.other;
}

abbrev pub decreases-loop-other-2 : goal.decreases-loop-other-2
decreases-loop-other-2 l = length l.prices - l.other
