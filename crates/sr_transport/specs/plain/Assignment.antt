-- Assignments of entries to consumers, and their totals.
-- Source: the transportation problem; linear programming, feasible solutions and objective.

use Rattle.std.specs.Prelude.{◌≡◌, ℕ, ◌<◌, ◌≤◌, List, length, slice_index, EachIndex, ◌==◌, count_by}
use Rattle.sr_transport.specs.Sum.{sum_below}
use Rattle.sr_transport.specs.plain.Problem.{Transport, consumers, room_of, cost_of, IsAllowed}

-- how many entries consumer c gets, where entry i goes to consumer xs[i]
abbrev pub load : List ℕ → ℕ → ℕ
load xs c = count_by (λ x. x == c) xs

-- the first entries, as many as the list is long, have allowed consumers, and no consumer gets more than its room
pub record IsPlacement (p : Transport) (xs : List ℕ) : Type 0 where
  pub allowed : EachIndex xs (λ i. IsAllowed p i (slice_index xs i))
  pub in_room : (c : ℕ) → c < consumers p → load xs c ≤ room_of p c

-- every entry goes to an allowed consumer, and no consumer gets more than its room
pub record IsAssignment (p : Transport) (xs : List ℕ) : Type 0 where
  pub every : length xs ≡ p.entries
  pub placement : IsPlacement p xs

-- what the assignment costs
abbrev pub total_of : Transport → List ℕ → ℕ
total_of p xs = sum_below (λ i. cost_of p i (slice_index xs i)) (length xs)

-- no assignment costs less
abbrev pub IsCheapest : Transport → List ℕ → Type 0
IsCheapest p xs = (other : List ℕ) → IsAssignment p other → total_of p xs ≤ total_of p other

-- there is no assignment
abbrev pub HasNoAssignment : Transport → Type 0
HasNoAssignment p = (xs : List ℕ) → IsAssignment p xs → ⊥
