-- What is done along a path that was found.

use Rattle.std.specs.Prelude.{◌≡◌, ℕ, ◌+◌, ◌<◌, List, length, slice_index, ◌⊎◌, true, false, cond, ◌==◌}
use Rattle.sr_transport.specs.plain.Assignment.{load}
use Rattle.sr_solver.specs.declared.label.Label.{Label}
use Rattle.sr_solver.specs.Labels.{label_at}

-- the price of a consumer whose path is shorter than `dist` rises by the difference, where it is closed
pub record IsRaised (dist : ℕ) (label : Label) (old new : ℕ) : Type 0 where
  pub closed : label.closed ≡ true → new + label.dist ≡ old + dist
  pub stays : label.closed ≡ false → new ≡ old

pub record AreRaised (dist : ℕ) (labels : List Label) (old new : List ℕ) : Type 0 where
  pub one_each : length new ≡ length old
  pub each : (c : ℕ) → c < length old → IsRaised dist (label_at labels c) (slice_index old c) (slice_index new c)

-- the entry that moves to consumer c stands at consumer x
pub record IsStep (labels : List Label) (k c x : ℕ) : Type 0 where
  pub fewer : (label_at labels c).hops ≡ (label_at labels x).hops + 1
  pub from : (((label_at labels c).mover ≡ k) × (x ≡ length labels))
      ⊎ ((x < length labels) × ((label_at labels x).closed ≡ true) × (0 < (label_at labels x).hops))

-- each reached consumer is reached by an entry that stands nowhere, which is entry k, or that stands where fewer
-- entries move along the path
pub record ArePaths (labels : List Label) (k : ℕ) (xs : List ℕ) : Type 0 where
  pub new : slice_index xs k ≡ length labels
  pub entry : (c : ℕ) → c < length labels → 0 < (label_at labels c).hops → (label_at labels c).mover < length xs
  pub step : (c : ℕ) → c < length labels → 0 < (label_at labels c).hops
      → IsStep labels k c (slice_index xs (label_at labels c).mover)

-- an entry moved along the path to consumer x
pub record IsMoved (labels : List Label) (end i x : ℕ) : Type 0 where
  pub consumer : x < length labels
  pub reached : 0 < (label_at labels x).hops
  pub mover : (label_at labels x).mover ≡ i
  pub passed : ((label_at labels x).closed ≡ true) ⊎ (x ≡ end)

-- the entries along the path that ends at `end` moved, each to the next consumer; k is the first
pub record AreShifted (labels : List Label) (k end : ℕ) (old new : List ℕ) : Type 0 where
  pub every : length new ≡ length old
  pub loads : (c : ℕ) → c < length labels → load new c ≡ load old c + cond (end == c) 1 0
  pub moved : (i : ℕ) → (slice_index new i ≡ slice_index old i) ⊎ IsMoved labels end i (slice_index new i)
  pub first : slice_index new k < length labels

-- the state on the way: the entries that stood where fewer entries move along the path than to `place` have not moved
pub record IsShifting (labels : List Label) (k end : ℕ) (old new : List ℕ) (place : ℕ) : Type 0 where
  pub every : length new ≡ length old
  pub consumer : place < length labels
  pub reached : 0 < (label_at labels place).hops
  pub passed : ((label_at labels place).closed ≡ true) ⊎ (place ≡ end)
  pub loads : (c : ℕ) → c < length labels → load new c + cond (place == c) 1 0 ≡ load old c + cond (end == c) 1 0
  pub moved : (i : ℕ) → (slice_index new i ≡ slice_index old i) ⊎ IsMoved labels end i (slice_index new i)
  pub still : (i : ℕ) → (label_at labels (slice_index old i)).hops < (label_at labels place).hops
      → slice_index new i ≡ slice_index old i
