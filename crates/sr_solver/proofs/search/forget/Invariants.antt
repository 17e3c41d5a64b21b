use Rattle.std.proofs.Common.{◌≡◌, ℕ, ◌<◌, length}
use Rattle.sr_solver.specs.Labels.{unreached, label_at}
use Rattle.sr_solver.proofs.search.forget.Given as goal

abbrev pub invariant-loop-consumer : goal.invariant-loop-consumer
invariant-loop-consumer l = record {
  every : length l.labels ≡ length l.initial.labels;
  none : (c : ℕ) → c < l.consumer → label_at l.labels c ≡ unreached;
}
