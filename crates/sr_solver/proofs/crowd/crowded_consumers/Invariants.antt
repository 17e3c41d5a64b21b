use Rattle.std.proofs.Common.{◌≡◌}
use Rattle.sr_solver.specs.Crowd.{IsSeating}
use Rattle.sr_solver.proofs.crowd.crowded_consumers.Given as goal

abbrev pub invariant-loop-entry : goal.invariant-loop-entry
invariant-loop-entry l = record { sets : l.seating.sets ≡ l.initial.seating.sets; seating : IsSeating l.seating }
