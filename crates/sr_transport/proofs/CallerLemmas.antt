-- What the prices and the sets are worth: prices that show an assignment show it a cheapest one, and a shortage
-- excludes every assignment.
use Rattle.std.proofs.Common.{◌≡◌, ℕ, ◌*◌, ◌<◌, ◌≤◌, true, List, length, get_or, All, arith}
use Rattle.std.specs.Prelude.{is_some}
use Rattle.std.proofs.lemmas.List.Elements.{All-from_get_or}
use Rattle.std.proofs.lemmas.List.Folds.{list_any_at}
use Rattle.sr_transport.specs.Limits.{most_tiers, most_entries, greatest_room, greatest_charge, greatest_total}
use Rattle.sr_transport.specs.Problem.{Tiered, consumers, AreTiers, IsWithinLimits, cost_at, room_of}
use Rattle.sr_transport.specs.Assignment.{charge_of, tier_of, tiers_of, total_of, IsPlacement, IsAssignment, IsCheapest}
use Rattle.sr_transport.specs.Assignment.{HasNoAssignment}
use Rattle.sr_transport.specs.Certificate.{ShowsCheapest, is_reached, places_of, IsShortage}
use Rattle.sr_transport.specs.ByTier.{by_tier}
use Rattle.sr_transport.proofs.SumLemmas.{sum_below-le_most}
use Rattle.sr_transport.proofs.PlainLimitLemmas.{places_small}
use Rattle.sr_transport.proofs.PlainLemmas as plain
use Rattle.sr_transport.proofs.ByTierLemmas.{columns-length, by_tier-within, charge_small, tiers_assigned}
use Rattle.sr_transport.proofs.ByTierLemmas.{total_of-by_tier, shown-by_tier, places-by_tier}

-- prices that show an assignment show that no other costs less
pub prices_show_cheapest : (p : Tiered) (xs prices : List ℕ) → AreTiers p.takers p.tiers → IsAssignment p xs
    → ShowsCheapest p xs prices
    → IsCheapest p xs
prices_show_cheapest p xs prices are assigned shows other other_assigned =
    let cheapest = plain.prices_show_cheapest (by_tier p) (tiers_of p xs) prices (tiers_assigned p xs are assigned)
    (shown-by_tier p xs prices are assigned shows) (tiers_of p other) (tiers_assigned p other are other_assigned) in
    omega (arith, cheapest, total_of-by_tier p xs are assigned, total_of-by_tier p other are other_assigned)

-- the consumers of a placement are consumers
pub placed_below : (p : Tiered) (xs : List ℕ) → IsPlacement p xs → All (λ x. x < consumers p) xs
placed_below p xs placed = All-from_get_or (λ x. x < consumers p) xs 0 (λ i lt. (placed.allowed i lt).0)

-- a shortage excludes every assignment
pub shortage_excludes : (p : Tiered) (set : List ℕ) → IsShortage p set → HasNoAssignment p
shortage_excludes p set shortage xs assigned =
    let entry_in : (k : ℕ) → k < length set → get_or set k 0 < length xs =
    λ k lt. omega (arith, shortage.entries k 0 lt, assigned.every) in
    let reached : (k : ℕ) → k < length set → is_reached p set (get_or xs (get_or set k 0) 0) ≡ true =
    λ k lt. list_any_at (λ i. is_some (cost_at p i (get_or xs (get_or set k 0) 0))) set k 0 lt
    (assigned.placement.allowed (get_or set k 0) (entry_in k lt)).1 in
    let many = plain.rising_places-le (is_reached p set) xs set shortage.rising entry_in reached in
    let few = plain.reached_within (is_reached p set) (room_of p) (consumers p) xs
    (placed_below p xs assigned.placement) assigned.placement.in_room in
    omega (arith, many, few, shortage.too_few)

-- the places of a set
pub places_within : (p : Tiered) (set : List ℕ) → IsWithinLimits p.tiers p.takers p.entries p.costs
    → All (λ i. i < p.entries) set
    → places_of p set ≤ most_tiers * greatest_room
places_within p set limits entries =
    let small = places_small (by_tier p) set (length (by_tier p).rooms) (by_tier-within p limits) (omega arith) in
    omega (arith, small, columns-length p, limits.few_tiers, places-by_tier p set limits.are_tiers entries)

-- a total
pub total_within : (p : Tiered) (xs : List ℕ) → IsWithinLimits p.tiers p.takers p.entries p.costs
    → length xs ≤ most_entries
    → total_of p xs ≤ greatest_total
total_within p xs limits few =
    omega (
      arith,
      sum_below-le_most (λ i. charge_of p i (tier_of p xs i)) greatest_charge (length xs)
          (λ i lt. charge_small p i (tier_of p xs i) limits),
    )
