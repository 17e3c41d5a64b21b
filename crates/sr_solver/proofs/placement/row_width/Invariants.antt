use Rattle.std.proofs.Common.{ℕ, ◌<◌, ◌≤◌}
use Rattle.sr_transport.specs.plain.Problem.{room_of}
use Rattle.sr_solver.proofs.placement.row_width.Given as goal

abbrev pub invariant-loop-consumer : goal.invariant-loop-consumer
invariant-loop-consumer l = record {
  enough : (c n : ℕ) → c < l.consumer → n ≤ room_of l.problem c → n ≤ l.problem.entries → n ≤ l.most;
  few : l.most ≤ l.problem.entries;
}
