use Rattle.sr_solver.specs.Crowd.{AreConfined}
use Rattle.sr_solver.proofs.crowd.confined.Given as goal

abbrev pub invariant-loop-entry : goal.invariant-loop-entry
invariant-loop-entry l = AreConfined l.sets l.entry l.among l.confined.items
