use Rattle.std.proofs.Common.{◌≡◌, ℕ, ◌+◌, ◌<◌, ◌≤◌, length, slice_index}
use Rattle.sr_transport.specs.{greatest_charge, consumers}
use Rattle.sr_transport.specs.plain.Problem.{cost_of, IsAllowed}
use Rattle.sr_solver.specs.Groups.{low_row}
use Rattle.sr_solver.proofs.GapLemmas.{looked_at}
use Rattle.sr_solver.proofs.groups.join_group_in_row.Given as goal

abbrev pub invariant-loop-pair : goal.invariant-loop-pair
invariant-loop-pair l = record {
  each_group : length l.lows ≡ length l.fn.lows;
  none_higher : (q : ℕ) → slice_index l.lows q ≤ slice_index l.fn.lows q;
  below : (b : ℕ) → b < looked_at l.row.pairs.now l.pair-index → IsAllowed l.problem l.row.number b
      → slice_index l.lows (low_row (consumers l.problem) l.groups l.to b + l.group) + cost_of l.problem l.row.number l.to
      ≤ cost_of l.problem l.row.number b + greatest_charge;
}
