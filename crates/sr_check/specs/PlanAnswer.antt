-- An answer to the problem of a snapshot: a cheapest plan with the prices that show it, or a shortage that shows that
-- there is none.
-- Source: docs/RECOVERY.md.

use Rattle.std.specs.Prelude.{ℕ, ◌<◌, ◌^◌, List, [], ◌∷◌, All, drop, map, slice_index_or, take}
use Rattle.std.specs.List.{zip}
use Rattle.sr_ids.specs.declared.id.Id.{Id}
use Rattle.sr_policy.specs.declared.live.Live.{Live}
use Rattle.sr_policy.specs.declared.stranded.Stranded.{Stranded}
use Rattle.sr_policy.specs.{tier_count, Text, SnapshotState}
use Rattle.sr_transport.specs.Assignment.{IsAssignment, IsCheapest, HasNoAssignment}
use Rattle.sr_transport.specs.Certificate.{IsShortage}
use Rattle.sr_transport.specs.{Tiered}
use Rattle.sr_transport.specs.Solved.{IsBest}

-- what is answered to a snapshot's problem: which consumer each entry goes to, with a price for each tier and the total
-- cost; or entries for which there are too few places. Entries and consumers are counted from 0, as the snapshot lists
-- them.
pub data PlanAnswer : Type 0 where
  best : (assign prices : List ℕ) (total : ℕ) → PlanAnswer
  short : (set : List ℕ) → PlanAnswer

-- a reply can tell these prices: an integer of the protocol is below 2 ^ 63
abbrev pub AreTold : List ℕ → Type 0
AreTold prices = All (λ price. price < 2 ^ 63) prices

-- the answer shows that it is right: the prices that no assignment costs less, or the entries that there is none
abbrev pub IsShown : Tiered → PlanAnswer → Type 0
IsShown p (best assign prices total) = IsBest p assign prices total × AreTold prices
IsShown p (short set) = IsShortage p set

-- what the answer is worth: no assignment costs less, or none exists
abbrev pub IsWorth : Tiered → PlanAnswer → Type 0
IsWorth p (best assign prices total) = IsAssignment p assign × IsCheapest p assign
IsWorth p (short set) = HasNoAssignment p

-- the name of the consumer with this number
abbrev pub name_at : List Live → ℕ → Text
name_at live c = slice_index_or (map (λ consumer. consumer.name) live) c []

-- the id of the stranded entry with this number
abbrev pub id_at : List Stranded → ℕ → Id
id_at stranded i = slice_index_or (map (λ entry. entry.id) stranded) i (record { ms = 0; seq = 0 })

-- each live consumer with the prices of its tiers, of one or of two
abbrev pub prices_by : List Live → List ℕ → List (Text × List ℕ)
prices_by [] prices = []
prices_by (consumer ∷ live) prices =
    (consumer.name, take (tier_count consumer) prices) ∷ prices_by live (drop (tier_count consumer) prices)

-- each stranded entry with the consumer that it goes to, by id
abbrev pub moves_of : SnapshotState → List ℕ → List (Id × Text)
moves_of shown assign = zip (map (λ entry. entry.id) shown.stranded) (map (name_at shown.live) assign)
