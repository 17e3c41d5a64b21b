-- When a plan that was made of one snapshot may be carried out at a later moment: the work is the same, each consumer
-- has room for what it is given, and the tiers with a price are filled, or lack so little that the plan costs little
-- more than a cheapest one.
-- Source: linear programming duality and complementary slackness.

use Rattle.std.specs.Prelude.{⊤, ◌≡◌, ℕ, ◌+◌, ◌-◌, ◌*◌, ◌<◌, ◌≤◌, List, [], ◌∷◌, Option, drop, map, min, option_map}
use Rattle.std.specs.Prelude.{slice_index_or}
use Rattle.sr_policy.specs.declared.live.Live.{Live}
use Rattle.sr_policy.specs.{room_at, tier_count, Text, SnapshotState}
use Rattle.sr_policy.specs.Problem.{free_room}
use Rattle.sr_transport.specs.Assignment.{load}

-- what the policy says of a live consumer: all but how many entries are pending for it
abbrev pub terms_of : Live → Text × ℕ × Option (ℕ × ℕ)
terms_of consumer = (consumer.name, consumer.limit, consumer.tier)

-- the same entries are stranded, at the same rates, and the same consumers are live on the same terms. How many entries
-- are pending for them may differ
pub record IsSameWork (old now : SnapshotState) : Type 0 where
  pub stranded : old.stranded ≡ now.stranded
  pub rates : old.rates ≡ now.rates
  pub live : map terms_of old.live ≡ map terms_of now.live

-- what a live consumer is charged with beyond its soft limit, if it has one
abbrev pub fee_of : Live → Text × Option ℕ
fee_of consumer = (consumer.name, option_map (λ tier. tier.1) consumer.tier)

-- the same entries are stranded, at the same rates, and the same consumers are live, with the same fees. Their limits
-- and soft limits may differ, and how many entries are pending for them
pub record HaveSameCosts (old now : SnapshotState) : Type 0 where
  pub stranded : old.stranded ≡ now.stranded
  pub rates : old.rates ≡ now.rates
  pub live : map fee_of old.live ≡ map fee_of now.live

-- of so many entries that the consumer is given, how many are without a fee
abbrev pub free_load : ℕ → Live → ℕ
free_load given consumer = min given (free_room consumer)

-- the consumers from number c on have room for what they are given; one that is given nothing may hold more than its
-- limit
abbrev pub HaveRoom : List ℕ → ℕ → List Live → Type 0
HaveRoom assign c [] = ⊤
HaveRoom assign c (consumer ∷ live) =
    (0 < load assign c → consumer.pending + load assign c ≤ consumer.limit) × HaveRoom assign (c + 1) live

-- how many entries each consumer from number c on gets without a fee
abbrev pub free_loads : List ℕ → ℕ → List Live → List ℕ
free_loads assign c [] = []
free_loads assign c (consumer ∷ live) = free_load (load assign c) consumer ∷ free_loads assign (c + 1) live

-- what the free places of a consumer are worth at the prices of its tiers: those without a fee, and the others
abbrev pub gap_at : ℕ → List ℕ → Live → ℕ
gap_at given prices consumer =
    slice_index_or prices 0 0 * (free_room consumer - free_load given consumer)
    + slice_index_or prices 1 0 * (room_at consumer - free_room consumer - (given - free_load given consumer))

-- the same for the consumers from number c on, whose prices lie one after another (a consumer without a soft limit has
-- one price, and then the second sum is 0, since it has no room that is not free)
abbrev pub gap_from : List ℕ → ℕ → List ℕ → List Live → ℕ
gap_from assign c prices [] = 0
gap_from assign c prices (consumer ∷ live) =
    gap_at (load assign c) prices consumer + gap_from assign (c + 1) (drop (tier_count consumer) prices) live

-- how much more than a cheapest plan this one may cost at most
abbrev pub gap_of : SnapshotState → List ℕ → List ℕ → ℕ
gap_of shown assign prices = gap_from assign 0 prices shown.live

-- the plan of the old snapshot can be carried out in the new one, and costs what it cost: there is room for it, and as
-- many entries are without a fee
pub record Fits (old now : SnapshotState) (assign : List ℕ) : Type 0 where
  pub work : HaveSameCosts old now
  pub room : HaveRoom assign 0 now.live
  pub free : free_loads assign 0 old.live ≡ free_loads assign 0 now.live
