use Rattle.std.proofs.Common.{◌≡◌, ℕ, ◌<◌, All, length}
use Rattle.sr_solver.proofs.sample.sample.Given as goal

abbrev pub invariant-loop-block : goal.invariant-loop-block
invariant-loop-block l = record {
  below : (n : ℕ) → All (λ entry. entry < n) l.order → All (λ entry. entry < n) l.sample.items;
  few : length l.sample.items ≡ l.block;
}
