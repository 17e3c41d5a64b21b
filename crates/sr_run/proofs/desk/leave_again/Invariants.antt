use Rattle.std.specs.Prelude.{◌≡◌}
use Rattle.sr_run.proofs.desk.leave_again.Given as goal

abbrev pub invariant-loop : goal.invariant-loop
invariant-loop g l = l.seat ≡ l.initial.seat
