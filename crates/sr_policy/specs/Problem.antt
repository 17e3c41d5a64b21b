-- The transportation problem of a snapshot: how many entries each consumer has room for, and how many of these without
-- a fee, which consumers each stranded entry is allowed, and what each pair costs.
-- Source: docs/RECOVERY.md; F. L. Hitchcock, "The distribution of a product from several sources to numerous
-- localities", 1941.

use Rattle.std.specs.Prelude.{ℕ, ◌+◌, ◌-◌, ◌*◌, List, [], ◌∷◌, ◌++◌, length, map}
use Rattle.std.specs.Prelude.{Option, None, Some, is_some, option_map, unwrap_or, if◌then◌else◌}
use Rattle.std.specs.List.{flat_map}
use Rattle.std.specs.Option.{option_map_or}
use Rattle.sr_transport.specs.declared.problem.Tier.{Tier}
use Rattle.sr_transport.specs.{Tiered}
use Rattle.sr_policy.specs.declared.stranded.Stranded.{Stranded}
use Rattle.sr_policy.specs.declared.live.Live.{Live}
use Rattle.sr_policy.specs.Rules.{Text, value_at}
use Rattle.sr_policy.specs.Snapshot.{SnapshotState, places_left}

-- how many more entries the consumer may get
abbrev pub room_at : Live → ℕ
room_at consumer = places_left consumer.limit consumer.pending

-- how many of them without a fee: all, or those up to its soft limit
abbrev pub free_room : Live → ℕ
free_room consumer = option_map_or (λ tier. tier.0 - consumer.pending) consumer.tier (room_at consumer)

-- the tier of consumer c beyond its soft limit, if it has one
abbrev pub next_tier : ℕ → Live → Option (ℕ × ℕ) → List Tier
next_tier c consumer None = []
next_tier c consumer (Some tier) =
    record { consumer = c; room = room_at consumer - free_room consumer; fee = tier.1 } ∷ []

-- the tiers of consumer c: the room that is without a fee, and the rest at the fee if it has a soft limit
abbrev pub tiers_at : ℕ → Live → List Tier
tiers_at c consumer =
    record { consumer = c; room = free_room consumer; fee = 0 } ∷ next_tier c consumer consumer.tier

-- the tiers of the consumers from number c on
abbrev pub tiers_from : ℕ → List Live → List Tier
tiers_from c [] = []
tiers_from c (consumer ∷ live) = tiers_at c consumer ++ tiers_from (c + 1) live

-- how many tiers the consumer has
abbrev pub tier_count : Live → ℕ
tier_count consumer = if is_some consumer.tier then 2 else 1

-- the rate of each consumer for the class; no consumer may take a class that the snapshot has no rates for
abbrev pub rates_for : SnapshotState → Text → List (Option ℕ)
rates_for shown class = unwrap_or (value_at class shown.rates) (map (λ _. None) shown.live)

-- what an entry of this weight costs at each consumer: rate times weight, and None at a consumer without a rate, which
-- the entry is not allowed
abbrev pub costs_at : ℕ → List (Option ℕ) → List (Option ℕ)
costs_at weight rates = map (option_map (λ rate. rate * weight)) rates

-- what the entry costs at each consumer
abbrev pub costs_of : SnapshotState → Stranded → List (Option ℕ)
costs_of shown entry = costs_at entry.weight (rates_for shown entry.class)

-- the problem of a snapshot: the tiers of the live consumers, and a row of costs for each stranded entry, with a place
-- for each of them
abbrev pub problem_of : SnapshotState → Tiered
problem_of shown = record {
  tiers = tiers_from 0 shown.live;
  takers = length shown.live;
  entries = length shown.stranded;
  costs = flat_map (costs_of shown) shown.stranded;
}
