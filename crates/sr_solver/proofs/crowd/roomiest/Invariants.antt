use Rattle.std.specs.Prelude.{IfSome}
use Rattle.sr_solver.specs.Crowd.{HasSeat}
use Rattle.sr_solver.proofs.crowd.roomiest.Given as goal

abbrev pub invariant-loop-consumer : goal.invariant-loop-consumer
invariant-loop-consumer l = IfSome l.roomiest (HasSeat l.seating)

abbrev pub decreases-loop-consumer : goal.decreases-loop-consumer
decreases-loop-consumer l = l.rest.bits
