use Rattle.std.proofs.Common.{◌≡◌, length}
use Rattle.std.specs.Prelude.{IfSome}
use Rattle.sr_solver.specs.Crowd.{IsSeating, Sits}
use Rattle.sr_solver.proofs.crowd.move_on.Given as goal

abbrev pub invariant-loop-consumer : goal.invariant-loop-consumer
invariant-loop-consumer l = record {
  sets : l.seating.sets ≡ l.fn.seating.sets;
  seats : length l.seating.seats.items ≡ length l.fn.seating.seats.items;
  seating : IsSeating l.seating;
  mover : IfSome l.mover (Sits l.seating);
}

abbrev pub decreases-loop-consumer : goal.decreases-loop-consumer
decreases-loop-consumer l = l.rest.bits
