use Rattle.std.proofs.Common.{◌≡◌, length}
use Rattle.sr_solver.proofs.wanted.join_crowds_in_row.Given as goal

abbrev pub invariant-loop-pair : goal.invariant-loop-pair
invariant-loop-pair l = length l.crowds ≡ length l.initial.crowds
