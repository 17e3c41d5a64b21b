-- The transportation problem: rooms, entries, costs.
-- Source: F. L. Hitchcock, "The distribution of a product from several sources to numerous localities", 1941.

use Rattle.std.specs.Prelude.{◌≡◌, ℕ, ◌+◌, ◌*◌, ◌<◌, ◌≤◌, List, length, slice_index, slice_index_or, All, Option, None}
use Rattle.std.specs.Prelude.{IsSome, IfSome, unwrap_or}
use Rattle.sr_transport.specs.Limits.{most_tiers, most_entries, greatest_room, greatest_charge}

-- a problem: how many entries each consumer has room for, how many entries there are, and what each pair costs, row by
-- entry, None where the pair is not allowed
pub record Transport : Type 0 where
  pub rooms : List ℕ
  pub entries : ℕ
  pub costs : List (Option ℕ)

-- not too many consumers and entries, a place for each pair, and no room or cost above the greatest
pub record IsWithinLimits (rooms : List ℕ) (entries : ℕ) (costs : List (Option ℕ)) : Type 0 where
  pub consumers : length rooms ≤ most_tiers
  pub few_entries : entries ≤ most_entries
  pub pairs : length costs ≡ entries * length rooms
  pub small_rooms : All (λ room. room ≤ greatest_room) rooms
  pub small_costs : All (λ cost. IfSome cost (λ c. c ≤ greatest_charge)) costs

abbrev pub consumers : Transport → ℕ
consumers p = length p.rooms

abbrev pub room_of : Transport → ℕ → ℕ
room_of p c = slice_index p.rooms c

-- what entry i costs at consumer c, None where the pair is not allowed
abbrev pub cost_at : Transport → ℕ → ℕ → Option ℕ
cost_at p i c = slice_index_or p.costs (i * length p.rooms + c) None

-- the same for an allowed pair
abbrev pub cost_of : Transport → ℕ → ℕ → ℕ
cost_of p i c = unwrap_or (cost_at p i c) 0

-- entry i may go to consumer c
abbrev pub IsAllowed : Transport → ℕ → ℕ → Type 0
IsAllowed p i c = (c < consumers p) × IsSome (cost_at p i c)
