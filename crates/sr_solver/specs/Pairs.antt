-- The allowed pairs of a problem in which few are allowed: for each entry the consumers that it is allowed, and no
-- others.

use Rattle.std.specs.Prelude.{◌≡◌, ℕ, ◌+◌, ◌-◌, ◌<◌, ◌≤◌, List, length, slice_index, slice_index_or, take, drop}
use Rattle.std.specs.Prelude.{Option, Some, IsSome, IfSome}
use Rattle.sr_transport.specs.{Transport, consumers}
use Rattle.sr_transport.specs.Limits.{most_consumers}
use Rattle.sr_transport.specs.plain.Problem.{IsWithinLimits, cost_at, IsAllowed}
use Rattle.sr_solver.specs.declared.costs.Pairs.{Pairs}
use Rattle.sr_solver.specs.declared.pairs.Pair.{Pair}
use Rattle.sr_solver.specs.declared.set.ConsumerSet.{ConsumerSet}
use Rattle.sr_solver.specs.Order.{IsPartOf, shown}
use Rattle.sr_solver.specs.Sets.{IsIn}

-- the pair at place j of a row
abbrev pub pair_at : List Pair → ℕ → Pair
pair_at pairs j = slice_index_or pairs j (record { consumer = 0; cost = 0 })

-- a row has the allowed consumers of entry i, rising, and what it costs there
pub record IsRowOf (p : Transport) (i : ℕ) (pairs : List Pair) : Type 0 where
  pub consumer : (j : ℕ) → j < length pairs → (pair_at pairs j).consumer < consumers p
  pub cost : (j : ℕ) → j < length pairs → cost_at p i (pair_at pairs j).consumer ≡ Some (pair_at pairs j).cost
  pub rising : (j k : ℕ) → j < k → k < length pairs → (pair_at pairs j).consumer < (pair_at pairs k).consumer
  pub each : (c : ℕ) → IsAllowed p i c → (j : ℕ) × (j < length pairs) × ((pair_at pairs j).consumer ≡ c)

-- the consumers of a row are among the first n
abbrev pub AreBelow : ℕ → List Pair → Type 0
AreBelow n pairs = (j : ℕ) → j < length pairs → (pair_at pairs j).consumer < n

-- the set at place i
abbrev pub set_at : List ConsumerSet → ℕ → ConsumerSet
set_at sets i = slice_index_or sets i (record { bits = 0 })

-- for each entry a set in which each allowed consumer is
pub record AreSetsOf (p : Transport) (sets : List ConsumerSet) : Type 0 where
  pub one_each : length sets ≡ p.entries
  pub each : (i c : ℕ) → IsAllowed p i c → IsIn (set_at sets i) c

-- the first m places of a row have the allowed consumers of entry i below n, rising, and the first k also what it
-- costs there
pub record IsRowBelow (p : Transport) (i n m k : ℕ) (row : List Pair) : Type 0 where
  pub few : m ≤ n
  pub consumer : (j : ℕ) → j < m → (pair_at row j).consumer < n
  pub allowed : (j : ℕ) → j < m → IsSome (cost_at p i (pair_at row j).consumer)
  pub cost : (j : ℕ) → j < k → cost_at p i (pair_at row j).consumer ≡ Some (pair_at row j).cost
  pub rising : (j l : ℕ) → j < l → l < m → (pair_at row j).consumer < (pair_at row l).consumer
  pub each : (c : ℕ) → c < n → IsSome (cost_at p i c) → (j : ℕ) × (j < m) × ((pair_at row j).consumer ≡ c)

-- the row of entry i among rows that follow one another, of which it begins at starts[i]
abbrev pub row_in : List ℕ → List Pair → ℕ → List Pair
row_in starts pairs i = take (slice_index starts (i + 1) - slice_index starts i) (drop (slice_index starts i) pairs)

-- row i of n begins where the one before it ends, and is within the list
pub record IsWithin (starts : List ℕ) (pairs : List Pair) (i : ℕ) : Type 0 where
  pub rises : slice_index starts i ≤ slice_index starts (i + 1)
  pub fits : slice_index starts (i + 1) ≤ length pairs

-- the rows of the first n entries follow one another, and the last one ends with the list
pub record AreRowsOf (p : Transport) (n : ℕ) (starts : List ℕ) (pairs : List Pair) : Type 0 where
  pub one_each : length starts ≡ n + 1
  pub all : slice_index starts n ≡ length pairs
  pub within : (i : ℕ) → i < n → IsWithin starts pairs i
  pub each : (i : ℕ) → i < n → IsRowOf p i (row_in starts pairs i)

-- these are the allowed pairs of each entry, and a set has room for the consumers
pub record ArePairsOf (p : Transport) (kept : Pairs) : Type 0 where
  pub few : consumers p ≤ most_consumers
  pub rows : AreRowsOf p p.entries kept.starts.items kept.pairs.items
  pub sets : AreSetsOf p kept.sets.items

-- no limit is broken, there are n entries of p in the order, or as many as p has, and the pairs are those of p
pub record AreCosts (p : Transport) (n : ℕ) (order : Option (List ℕ)) (pairs : Option Pairs) : Type 0 where
  pub count : n ≡ (shown p order).entries
  pub limits : IsWithinLimits p.rooms p.entries p.costs
  pub part : IfSome order (IsPartOf p)
  pub kept : IfSome pairs (ArePairsOf p)
