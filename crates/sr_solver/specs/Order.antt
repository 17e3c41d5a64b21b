-- A problem with its entries in another order.

use Rattle.std.specs.Prelude.{◌≡◌, ℕ, zero, suc, ◌<◌, ◌≤◌, List, [], ◌∷◌, ◌++◌, length, slice_index, Option, None, Some}
use Rattle.std.specs.Prelude.{All, map}
use Rattle.std.specs.List.Sorted.{IsPermutation, IsNonDecreasing}
use Rattle.sr_transport.specs.{Transport, consumers}
use Rattle.sr_transport.specs.Limits.{greatest_room}
use Rattle.sr_transport.specs.plain.Problem.{cost_at}

-- the numbers below n, rising
abbrev pub numbers_below : ℕ → List ℕ
numbers_below zero = []
numbers_below (suc n) = numbers_below n ++ n ∷ []

-- each number below n once
abbrev pub IsOrder : ℕ → List ℕ → Type 0
IsOrder n order = IsPermutation (numbers_below n) order

-- the first costs of entry i
abbrev pub row_below : Transport → ℕ → ℕ → List (Option ℕ)
row_below p i zero = []
row_below p i (suc c) = row_below p i c ++ cost_at p i c ∷ []

-- the rows of the first entries in the order
abbrev pub rows_below : Transport → List ℕ → ℕ → List (Option ℕ)
rows_below p order zero = []
rows_below p order (suc k) = rows_below p order k ++ row_below p (slice_index order k) (consumers p)

-- the entries of p that are named, in this order and with these rooms
abbrev pub picked : Transport → List ℕ → List ℕ → Transport
picked p rooms order = record { rooms = rooms; entries = length order; costs = rows_below p order (length order) }

-- no more entries than p has, each of them one of p
pub record IsPartOf (p : Transport) (order : List ℕ) : Type 0 where
  pub entries : All (λ entry. entry < p.entries) order
  pub few : length order ≤ p.entries

-- a room within the limit for each consumer, and entries of p
pub record IsPick (p : Transport) (rooms order : List ℕ) : Type 0 where
  pub one_each : length rooms ≡ consumers p
  pub small : All (λ room. room ≤ greatest_room) rooms
  pub part : IsPartOf p order

-- the entries of an order, or all of p if there is no order
abbrev pub shown : Transport → Option (List ℕ) → Transport
shown p None = p
shown p (Some order) = picked p p.rooms order

-- the entry at place k
abbrev pub entry_at : Option (List ℕ) → ℕ → ℕ
entry_at None k = k
entry_at (Some order) k = slice_index order k

-- entry k of q is the one that stands at place k of the order
pub record IsReordered (p q : Transport) (order : List ℕ) : Type 0 where
  pub rooms : q.rooms ≡ p.rooms
  pub entries : q.entries ≡ p.entries
  pub costs : q.costs ≡ rows_below p order p.entries

-- what stands at place k of ys stands at the number of xs that the order has there
abbrev pub IsRenamed : List ℕ → List ℕ → List ℕ → ℕ → Type 0
IsRenamed order ys xs n = (k : ℕ) → k < n → slice_index xs (slice_index order k) ≡ slice_index ys k

-- the entries that the order has at these places, rising
pub record AreEntriesAt (order places entries : List ℕ) : Type 0 where
  pub moved : IsPermutation (map (slice_index order) places) entries
  pub rising : IsNonDecreasing entries
