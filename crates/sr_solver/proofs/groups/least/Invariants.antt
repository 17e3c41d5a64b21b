use Rattle.std.proofs.Common.{◌≡◌, ℕ, ◌+◌, ◌<◌, ◌≤◌, slice_index}
use Rattle.sr_solver.proofs.groups.least.Given as goal

abbrev pub invariant-loop-group : goal.invariant-loop-group
invariant-loop-group l = record {
  best : l.best < l.group;
  low : l.low ≡ slice_index l.lows (l.row + l.best);
  least : (g : ℕ) → g < l.group → l.low ≤ slice_index l.lows (l.row + g);
}
