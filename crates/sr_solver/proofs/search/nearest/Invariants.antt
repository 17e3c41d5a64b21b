use Rattle.std.proofs.Common.{◌≡◌, ℕ, ◌<◌, ◌≤◌, ◌⊎◌}
use Rattle.std.specs.Prelude.{IfSome, IfNone}
use Rattle.sr_solver.specs.Labels.{label_at, reach_of}
use Rattle.sr_solver.specs.Sets.{IsIn}
use Rattle.sr_solver.proofs.search.nearest.Given as goal

abbrev pub invariant-loop-consumer : goal.invariant-loop-consumer
invariant-loop-consumer l = record {
  labels : l.front.labels ≡ l.fn.front.labels;
  cutoff : l.front.cutoff ≡ l.fn.front.cutoff;
  rest : (c : ℕ) → IsIn l.rest c → IsIn l.fn.front.waiting c;
  back : (c : ℕ) → IsIn l.front.waiting c → IsIn l.fn.front.waiting c;
  kept : (c : ℕ) → IsIn l.fn.front.waiting c
      → IsIn l.front.waiting c ⊎ (l.limit ≤ reach_of (label_at l.fn.front.labels.items c));
  compared : (c : ℕ) → IsIn l.fn.front.waiting c
      → IsIn l.rest c ⊎ (l.least ≤ reach_of (label_at l.fn.front.labels.items c));
  best : IfSome l.best (λ b. IsIn l.fn.front.waiting b
      × (reach_of (label_at l.fn.front.labels.items b) ≡ l.least) × (l.least < l.limit));
  none : IfNone l.best (l.least ≡ l.limit);
}

abbrev pub decreases-loop-consumer : goal.decreases-loop-consumer
decreases-loop-consumer l = l.rest.bits
