-- Assignments of entries to consumers, and their totals.
-- Source: the transportation problem; linear programming, feasible solutions and objective.

use Rattle.std.specs.Prelude.{◌≡◌, ℕ, ◌+◌, ◌<◌, ◌≤◌, nat_lt, List, length, slice_index, map, take, EachIndex, Option}
use Rattle.std.specs.Prelude.{option_map, unwrap_or, if◌then◌else◌}
use Rattle.std.specs.List.{range_with_len}
use Rattle.sr_transport.specs.Sum.{sum_below}
use Rattle.sr_transport.specs.Problem.{Tiered, consumers, cost_at, first_in, room_of, tier_at, IsAllowed}
pub use Rattle.sr_transport.specs.plain.Assignment.{load}

-- the entries go to allowed consumers, and no consumer gets more than its room
pub record IsPlacement (p : Tiered) (xs : List ℕ) : Type 0 where
  pub allowed : EachIndex xs (λ i. IsAllowed p i (slice_index xs i))
  pub in_room : (c : ℕ) → c < consumers p → load xs c ≤ room_of p c

-- every entry goes to an allowed consumer, and no consumer gets more than its room
pub record IsAssignment (p : Tiered) (xs : List ℕ) : Type 0 where
  pub every : length xs ≡ p.entries
  pub placement : IsPlacement p xs

-- the tier of an entry that consumer c gets after k others: the first while that has room, and then the next
abbrev pub tier_for : Tiered → ℕ → ℕ → ℕ
tier_for p c k =
    let first = first_in p.tiers c in
    if nat_lt k (tier_at p.tiers first).room then first else first + 1

-- the tier of entry i: of those that its consumer gets, the first by number are in the first tier
abbrev pub tier_of : Tiered → List ℕ → ℕ → ℕ
tier_of p xs i = tier_for p (slice_index xs i) (load (take i xs) (slice_index xs i))

-- the tier of each entry
abbrev pub tiers_of : Tiered → List ℕ → List ℕ
tiers_of p xs = map (tier_of p xs) (range_with_len 0 (length xs))

-- what entry i is charged in tier t: its cost at the consumer, and the fee
abbrev pub charge_at : Tiered → ℕ → ℕ → Option ℕ
charge_at p i t = option_map (λ cost. cost + (tier_at p.tiers t).fee) (cost_at p i (tier_at p.tiers t).consumer)

-- the same for an allowed pair
abbrev pub charge_of : Tiered → ℕ → ℕ → ℕ
charge_of p i t = unwrap_or (charge_at p i t) 0

-- what the assignment costs: the costs, and for each entry in a second tier its fee
abbrev pub total_of : Tiered → List ℕ → ℕ
total_of p xs = sum_below (λ i. charge_of p i (tier_of p xs i)) (length xs)

-- no assignment costs less
abbrev pub IsCheapest : Tiered → List ℕ → Type 0
IsCheapest p xs = (other : List ℕ) → IsAssignment p other → total_of p xs ≤ total_of p other

-- there is no assignment
abbrev pub HasNoAssignment : Tiered → Type 0
HasNoAssignment p = (xs : List ℕ) → IsAssignment p xs → ⊥
