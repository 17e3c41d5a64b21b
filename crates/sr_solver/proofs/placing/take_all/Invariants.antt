use Rattle.sr_solver.specs.Placed.{IsStanding}
use Rattle.sr_solver.proofs.placing.take_all.Given as goal

abbrev pub invariant-loop-entry : goal.invariant-loop-entry
invariant-loop-entry l = IsStanding l.problem.columns l.problem.steps.now l.entry l.placement
