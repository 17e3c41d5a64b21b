use Rattle.std.proofs.Common.{◌≡◌, ◌≤◌, ◌<◌, length}
use Rattle.sr_solver.specs.Crowd.{IsSeating}
use Rattle.sr_solver.proofs.crowd.reach.Given as goal

abbrev pub invariant-loop : goal.invariant-loop
invariant-loop l = record { sets : l.seating.sets ≡ l.fn.seating.sets; seating : IsSeating l.seating }

abbrev pub invariant-loop-seat : goal.invariant-loop-seat
invariant-loop-seat l = record {
  sets : l.seating.sets ≡ l.fn.seating.sets;
  seating : IsSeating l.seating;
  consumer : l.consumer < 64;
  within : l.seat-end ≤ length l.seating.seats.items;
}
