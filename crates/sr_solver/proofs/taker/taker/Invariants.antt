use Rattle.sr_solver.specs.Taker.{IsCheapest}
use Rattle.sr_solver.proofs.taker.taker.Given as goal

abbrev pub invariant-loop-consumer : goal.invariant-loop-consumer
invariant-loop-consumer l = IsCheapest l.problem.columns l.problem.steps.now l.prices l.loads l.entry l.consumer l.cheapest
