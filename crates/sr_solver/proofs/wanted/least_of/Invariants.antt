use Rattle.std.proofs.Common.{◌<◌}
use Rattle.std.specs.Prelude.{IfSome}
use Rattle.sr_transport.specs.{consumers}
use Rattle.sr_solver.proofs.wanted.least_of.Given as goal

abbrev pub invariant-loop-consumer : goal.invariant-loop-consumer
invariant-loop-consumer l = IfSome l.least.only (λ consumer. consumer < consumers l.problem)
