use Rattle.std.proofs.Common.{ℕ, ◌<◌, ◌≤◌, All, length}
use Rattle.sr_solver.proofs.sample.without.Given as goal

abbrev pub invariant-loop-place-2 : goal.invariant-loop-place-2
invariant-loop-place-2 l = record {
  below : (n : ℕ) → All (λ entry. entry < n) l.entries → All (λ entry. entry < n) l.kept.items;
  few : length l.kept.items ≤ l.place;
}
