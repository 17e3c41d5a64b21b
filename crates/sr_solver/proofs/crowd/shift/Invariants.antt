use Rattle.std.proofs.Common.{◌≡◌, ◌<◌, length}
use Rattle.sr_solver.specs.Crowd.{IsSeating}
use Rattle.sr_solver.proofs.crowd.shift.Given as goal

abbrev pub invariant-loop : goal.invariant-loop
invariant-loop l = record {
  sets : l.seating.sets ≡ l.fn.seating.sets;
  seating : IsSeating l.seating;
  seat : l.seat < length l.seating.seats.items;
  consumer : l.consumer < 64;
}
