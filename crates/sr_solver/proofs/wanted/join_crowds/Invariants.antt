use Rattle.std.proofs.Common.{◌≡◌, length}
use Rattle.sr_solver.proofs.wanted.join_crowds.Given as goal

abbrev pub invariant-loop-consumer : goal.invariant-loop-consumer
invariant-loop-consumer l = length l.crowds ≡ length l.initial.crowds
