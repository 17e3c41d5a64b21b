use Rattle.std.proofs.Common.{◌≡◌}
use Rattle.sr_transport.specs.plain.Problem.{room_of}
use Rattle.sr_transport.specs.{sum_below}
use Rattle.sr_solver.proofs.shortage.places.Given as goal

abbrev pub invariant-loop-consumer : goal.invariant-loop-consumer
invariant-loop-consumer l = l.places ≡ sum_below (room_of l.problem) l.consumer
