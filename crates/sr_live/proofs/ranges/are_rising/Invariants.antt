use Rattle.std.proofs.Common.{◌≡◌, ◌+◌, ◌<◌, ◌≤◌, ℕ, slice_index_or, true}
use Rattle.sr_ids.specs.{is_below}
use Rattle.sr_live.specs.Said.{Listed}
use Rattle.sr_live.proofs.ranges.are_rising.Given as goal

abbrev pub invariant-loop-at : goal.invariant-loop-at
invariant-loop-at l =
    (1 ≤ l.at)
    × ((k : ℕ) → (d : Listed) → k + 1 < l.at
    → is_below (slice_index_or l.entries k d).0 (slice_index_or l.entries (k + 1) d).0 ≡ true)
