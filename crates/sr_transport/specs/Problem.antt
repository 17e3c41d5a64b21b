-- The transportation problem with tiers: a consumer has room for some entries at their costs, and may have room for
-- more of them at a fee for each.
-- Source: F. L. Hitchcock, "The distribution of a product from several sources to numerous localities", 1941; piecewise
-- linear costs in network flows (R. K. Ahuja, T. L. Magnanti, J. B. Orlin, "Network Flows", 1993, chapter 14).

use Rattle.std.specs.Prelude.{◌≡◌, ℕ, ◌+◌, ◌*◌, ◌<◌, ◌≤◌, ◌==◌, ◌⊎◌, nat_lt, List, length, slice_index_or, All, Option}
use Rattle.std.specs.Prelude.{None, IsSome, IfSome, unwrap_or, count_by, if◌then◌else◌}
use Rattle.std.specs.List.{sum_by}
use Rattle.sr_transport.specs.declared.problem.Tier.{Tier}
use Rattle.sr_transport.specs.Limits.{most_consumers, most_tiers, most_entries, greatest_room, greatest_cost}
use Rattle.sr_transport.specs.Limits.{greatest_fee}

-- a problem: its tiers, how many consumers and entries there are, and what each pair of an entry and a consumer costs,
-- row by entry, None where the pair is not allowed
pub record Tiered : Type 0 where
  pub tiers : List Tier
  pub takers : ℕ
  pub entries : ℕ
  pub costs : List (Option ℕ)

-- the tier with this number
abbrev pub tier_at : List Tier → ℕ → Tier
tier_at tiers t = slice_index_or tiers t (record { consumer = 0; room = 0; fee = 0 })

-- where the tiers of consumer c begin
abbrev pub first_in : List Tier → ℕ → ℕ
first_in tiers c = count_by (λ tier. nat_lt tier.consumer c) tiers

-- consumer c has a first tier, which is without a fee
pub record HasFirst (tiers : List Tier) (c : ℕ) : Type 0 where
  pub here : first_in tiers c < length tiers
  pub own : (tier_at tiers (first_in tiers c)).consumer ≡ c
  pub free : (tier_at tiers (first_in tiers c)).fee ≡ 0

-- tier t is the first of a consumer, or the next one
abbrev pub IsOneOfTwo : ℕ → List Tier → ℕ → Type 0
IsOneOfTwo takers tiers t =
    let first = first_in tiers (tier_at tiers t).consumer in
    ((tier_at tiers t).consumer < takers) × ((t ≡ first) ⊎ (t ≡ first + 1))

-- each consumer has one or two tiers, one after the other, in the order of the consumers, and the first is without a
-- fee
pub record AreTiers (takers : ℕ) (tiers : List Tier) : Type 0 where
  pub first : (c : ℕ) → c < takers → HasFirst tiers c
  pub near : (t : ℕ) → t < length tiers → IsOneOfTwo takers tiers t

-- no room or fee above the greatest
pub record IsSmallTier (tier : Tier) : Type 0 where
  pub room : tier.room ≤ greatest_room
  pub fee : tier.fee ≤ greatest_fee

-- not too many consumers, tiers and entries, tiers as they should be, a place for each pair, and no number above the
-- greatest
pub record IsWithinLimits (tiers : List Tier) (takers entries : ℕ) (costs : List (Option ℕ)) : Type 0 where
  pub consumers : takers ≤ most_consumers
  pub few_tiers : length tiers ≤ most_tiers
  pub few_entries : entries ≤ most_entries
  pub are_tiers : AreTiers takers tiers
  pub small_tiers : All IsSmallTier tiers
  pub pairs : length costs ≡ entries * takers
  pub small_costs : All (λ cost. IfSome cost (λ c. c ≤ greatest_cost)) costs

abbrev pub consumers : Tiered → ℕ
consumers p = p.takers

-- for how many entries consumer c has room: the rooms of its tiers together
abbrev pub room_of : Tiered → ℕ → ℕ
room_of p c = sum_by (λ tier. if tier.consumer == c then tier.room else 0) p.tiers

-- what entry i costs at consumer c, None where the pair is not allowed
abbrev pub cost_at : Tiered → ℕ → ℕ → Option ℕ
cost_at p i c = slice_index_or p.costs (i * p.takers + c) None

-- the same for an allowed pair
abbrev pub cost_of : Tiered → ℕ → ℕ → ℕ
cost_of p i c = unwrap_or (cost_at p i c) 0

-- entry i may go to consumer c
abbrev pub IsAllowed : Tiered → ℕ → ℕ → Type 0
IsAllowed p i c = (c < consumers p) × IsSome (cost_at p i c)
