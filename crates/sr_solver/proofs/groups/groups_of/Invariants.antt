use Rattle.std.proofs.Common.{ℕ, ◌<◌, ◌≤◌}
use Rattle.sr_transport.specs.{consumers}
use Rattle.sr_transport.specs.plain.Problem.{room_of}
use Rattle.sr_solver.specs.Limits.{narrow_room}
use Rattle.sr_solver.proofs.groups.groups_of.Given as goal

abbrev pub invariant-loop-consumer : goal.invariant-loop-consumer
invariant-loop-consumer l = record {
  first : l.first ≤ consumers l.problem;
  end : l.end ≤ l.consumer;
  spanned : (c : ℕ) → c < l.consumer → narrow_room < room_of l.problem c → (l.first ≤ c) × (c < l.end);
}
