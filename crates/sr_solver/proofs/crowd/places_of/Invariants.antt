use Rattle.std.proofs.Common.{◌≡◌}
use Rattle.sr_solver.specs.Crowd.{places_within}
use Rattle.sr_solver.proofs.crowd.places_of.Given as goal

abbrev pub invariant-loop-consumer : goal.invariant-loop-consumer
invariant-loop-consumer l = l.places ≡ places_within l.problem l.set l.consumer
