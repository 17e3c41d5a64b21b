-- What shows an assignment to be a cheapest one, and what shows that there is none.
-- Source: linear programming duality and complementary slackness; P. Hall, "On representatives of subsets", 1935.

use Rattle.std.specs.Prelude.{◌≡◌, ℕ, ◌+◌, ◌<◌, ◌≤◌, List, length, slice_index, EachIndex, All, Bool, is_some}
use Rattle.std.specs.Prelude.{if◌then◌else◌}
use Rattle.std.specs.List.{list_any}
use Rattle.sr_transport.specs.Sum.{sum_below}
use Rattle.std.specs.List.Sorted.{IsStrictlyIncreasing}
use Rattle.sr_transport.specs.plain.Problem.{Transport, consumers, room_of, cost_at, cost_of, IsAllowed}
use Rattle.sr_transport.specs.plain.Assignment.{load}

-- of the consumers that entry i is allowed, a has the least sum of cost and price
abbrev pub IsLeast : Transport → List ℕ → ℕ → ℕ → Type 0
IsLeast p prices i a =
    (c : ℕ) → IsAllowed p i c → cost_of p i a + slice_index prices a ≤ cost_of p i c + slice_index prices c

-- the prices show that the assignment is a cheapest one: there is one price for each consumer; each entry is where the
-- sum of cost and price is least; and a consumer with a price above 0 is filled to its room
pub record ShowsCheapest (p : Transport) (xs prices : List ℕ) : Type 0 where
  pub one_each : length prices ≡ consumers p
  pub least : EachIndex xs (λ i. IsLeast p prices i (slice_index xs i))
  pub filled : (c : ℕ) → c < consumers p → 0 < slice_index prices c → load xs c ≡ room_of p c

-- some entry of the set is allowed consumer c
abbrev pub is_reached : Transport → List ℕ → ℕ → Bool
is_reached p set c = list_any (λ i. is_some (cost_at p i c)) set

-- the room of all consumers that some entry of the set is allowed
abbrev pub places_of : Transport → List ℕ → ℕ
places_of p set = sum_below (λ c. if is_reached p set c then room_of p c else 0) (consumers p)

-- a set of entries with too few places
pub record IsShortage (p : Transport) (set : List ℕ) : Type 0 where
  pub rising : IsStrictlyIncreasing set
  pub entries : All (λ i. i < p.entries) set
  pub too_few : places_of p set < length set
