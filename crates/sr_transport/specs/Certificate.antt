-- What shows an assignment to be a cheapest one, and what shows that there is none.
-- Source: linear programming duality and complementary slackness; P. Hall, "On representatives of subsets", 1935.

use Rattle.std.specs.Prelude.{◌≡◌, ℕ, ◌+◌, ◌<◌, ◌≤◌, List, length, slice_index, EachIndex, All, Bool, is_some, IsSome}
use Rattle.std.specs.Prelude.{if◌then◌else◌}
use Rattle.std.specs.List.{list_any}
use Rattle.std.specs.List.Sorted.{IsStrictlyIncreasing}
use Rattle.sr_transport.specs.Sum.{sum_below}
use Rattle.sr_transport.specs.Problem.{Tiered, consumers, cost_at, room_of, tier_at}
use Rattle.sr_transport.specs.Assignment.{charge_at, charge_of, load, tier_of, tiers_of}

-- of the tiers of the consumers that entry i is allowed, tier t has the least sum of charge and price
abbrev pub IsLeast : Tiered → List ℕ → ℕ → ℕ → Type 0
IsLeast p prices i t =
    (u : ℕ) → u < length p.tiers → IsSome (charge_at p i u)
    → charge_of p i t + slice_index prices t ≤ charge_of p i u + slice_index prices u

-- the prices show that the assignment is a cheapest one: there is one price for each tier; each entry is in a tier
-- where the sum of charge and price is least; and a tier with a price above 0 is filled to its room
pub record ShowsCheapest (p : Tiered) (xs prices : List ℕ) : Type 0 where
  pub one_each : length prices ≡ length p.tiers
  pub least : EachIndex xs (λ i. IsLeast p prices i (tier_of p xs i))
  pub filled : (t : ℕ) → t < length p.tiers → 0 < slice_index prices t
      → load (tiers_of p xs) t ≡ (tier_at p.tiers t).room

-- some entry of the set is allowed consumer c
abbrev pub is_reached : Tiered → List ℕ → ℕ → Bool
is_reached p set c = list_any (λ i. is_some (cost_at p i c)) set

-- the room of all consumers that some entry of the set is allowed
abbrev pub places_of : Tiered → List ℕ → ℕ
places_of p set = sum_below (λ c. if is_reached p set c then room_of p c else 0) (consumers p)

-- a set of entries with too few places
pub record IsShortage (p : Tiered) (set : List ℕ) : Type 0 where
  pub rising : IsStrictlyIncreasing set
  pub entries : All (λ i. i < p.entries) set
  pub too_few : places_of p set < length set
