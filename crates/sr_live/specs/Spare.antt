-- Plans that leave some places of each live consumer free, since others go on working: they are made within lower
-- limits, and may be carried out at what the free places may come to be worth meanwhile. Source: docs/LIVE.md.

use Rattle.std.specs.Prelude.{ℕ, ◌+◌, ◌-◌, ◌^◌, min, nat_eq, if◌then◌else◌, List, [], ◌∷◌, length, map, drop}
use Rattle.std.specs.Prelude.{slice_index_or, Option, option_map}
use Rattle.sr_ids.specs.declared.id.Id.{Id}
use Rattle.sr_check.specs.PlanAnswer.{PlanAnswer, best, short, moves_of, prices_by}
use Rattle.sr_policy.specs.declared.live.Live.{Live}
use Rattle.sr_policy.specs.{Text, SnapshotState}
use Rattle.sr_live.specs.Bounds.{gap_at}
use Rattle.sr_live.specs.Words.{ids_to}

-- a soft limit with its fee, at most at this limit
abbrev pub spared_tier : ℕ → Option (ℕ × ℕ) → Option (ℕ × ℕ)
spared_tier limit tier = option_map (λ tier. (min tier.0 limit, tier.1)) tier

-- the consumer with a limit that is lower by so many places
abbrev pub spared : ℕ → Live → Live
spared spare consumer = record {
  name = consumer.name;
  limit = consumer.limit - spare;
  pending = consumer.pending;
  tier = spared_tier (consumer.limit - spare) consumer.tier;
}

-- the snapshot with such consumers
abbrev pub with_spare : ℕ → SnapshotState → SnapshotState
with_spare spare shown = record {
  key = shown.key;
  group = shown.group;
  dead = shown.dead;
  stranded = shown.stranded;
  gone = shown.gone;
  live = map (spared spare) shown.live;
  rates = shown.rates;
}

-- the consumer once it has acknowledged so many entries
abbrev pub after_acks : ℕ → Live → Live
after_acks acks consumer = record {
  name = consumer.name;
  limit = consumer.limit;
  pending = consumer.pending - acks;
  tier = consumer.tier;
}

-- what the free places of these consumers are worth at the prices of each, if these moves are made once each of them
-- has acknowledged so many entries
abbrev pub worth_of : ℕ → List (Id × Text) → List Live → List (Text × List ℕ) → ℕ
worth_of acks moves [] prices = 0
worth_of acks moves (consumer ∷ live) prices =
    gap_at (length (ids_to moves consumer.name)) (slice_index_or prices 0 ([], [])).1 (after_acks acks consumer)
    + worth_of acks moves live (drop 1 prices)

-- a number of 64 bits: the greatest one, if it is greater
abbrev pub in_64_bits : ℕ → ℕ
in_64_bits n = min n (2 ^ 64 - 1)

-- what the free places of these consumers may come to be worth before a plan is carried out: if each acknowledges as
-- many entries as places are left free; nothing if none are
abbrev pub worth_by : ℕ → List Live → SnapshotState → PlanAnswer → ℕ
worth_by spare live shown (best assign prices total) =
    if nat_eq spare 0 then 0
    else in_64_bits (worth_of spare (moves_of shown assign) live (prices_by shown.live prices))
worth_by spare live shown (short set) = 0
