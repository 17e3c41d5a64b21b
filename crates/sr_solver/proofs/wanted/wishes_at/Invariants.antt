use Rattle.std.proofs.Common.{◌≡◌, length}
use Rattle.sr_transport.specs.{consumers}
use Rattle.sr_solver.proofs.wanted.wishes_at.Given as goal

abbrev pub invariant-loop-entry : goal.invariant-loop-entry
invariant-loop-entry l = length l.crowds.items ≡ consumers l.problem
