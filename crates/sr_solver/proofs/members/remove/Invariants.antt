use Rattle.std.proofs.Common.{◌≡◌, ℕ, ◌+◌, ◌<◌, get_or}
use Rattle.sr_solver.proofs.members.remove.Given as goal

abbrev pub invariant-loop-place : goal.invariant-loop-place
invariant-loop-place l = record {
  same : l.members ≡ l.initial.members;
  passed : (j : ℕ) → j < l.place → get_or l.members (l.row + 1 + j) 0 ≡ l.entry → ⊥;
}
