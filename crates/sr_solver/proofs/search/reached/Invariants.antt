use Rattle.std.specs.Prelude.{None}
use Rattle.sr_solver.specs.Sets.{AreWaiting}
use Rattle.sr_solver.proofs.search.reached.Given as goal

abbrev pub invariant-loop-consumer : goal.invariant-loop-consumer
invariant-loop-consumer l = AreWaiting l.consumer None l.labels l.waiting
