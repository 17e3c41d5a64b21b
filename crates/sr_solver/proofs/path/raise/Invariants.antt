use Rattle.std.proofs.Common.{◌≡◌, ℕ, ◌<◌, ◌≤◌, get_or}
use Rattle.sr_solver.specs.Labels.{label_at}
use Rattle.sr_solver.specs.Path.{IsRaised}
use Rattle.sr_solver.proofs.path.raise.Given as goal

abbrev pub invariant-loop-consumer : goal.invariant-loop-consumer
invariant-loop-consumer l = record {
  done : (c : ℕ) → c < l.consumer
      → IsRaised l.dist (label_at l.labels c) (get_or l.initial.prices c 0) (get_or l.prices c 0);
  rest : (c : ℕ) → l.consumer ≤ c → get_or l.prices c 0 ≡ get_or l.initial.prices c 0;
}
