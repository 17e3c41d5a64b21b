-- The words with which Redis is asked to carry out a plan: what was looked up, so that it can be compared, and for each
-- live consumer what bounds it and which entries it gets. What the script makes of them is in `src/conclude.lua`.
-- Source: Redis documentation, command EVAL.

use Rattle.std.specs.Prelude.{ℕ, List, [], ◌∷◌, ◌++◌, length, map, filter, drop, min, slice_index_or, codes, decimal}
use Rattle.std.specs.Prelude.{Option, Some, None, is_some, if◌then◌else◌, nat_eq}
use Rattle.std.specs.Cmp.Lexicographic.{pointwise}
use Rattle.std.specs.List.{flat_map}
use Rattle.sr_ids.specs.declared.id.Id.{Id}
use Rattle.sr_ids.specs.{spelling}
use Rattle.sr_check.specs.{best}
use Rattle.sr_check.specs.PlanAnswer.{PlanAnswer, short, moves_of, prices_by}
use Rattle.sr_policy.specs.declared.live.Live.{Live}
use Rattle.sr_policy.specs.Problem.{free_room}
use Rattle.sr_policy.specs.{Text, SnapshotState}
use Rattle.sr_live.specs.declared.looked.Claimable.{Claimable}
use Rattle.sr_live.specs.declared.looked.Row.{Row}

-- an entry that is pending for a dead consumer: its id, and whether it is in the stream
abbrev pub row_words : Row → List Text
row_words row = spelling row.id ∷ (if is_some row.fields then codes "1" else codes "0") ∷ []

-- the entries that are pending for this consumer
abbrev pub rows_of : Text → List Row → List Row
rows_of name rows = filter (λ row. pointwise nat_eq name row.owner) rows

-- a dead consumer: how many entries are pending for it, and these
abbrev pub dead_words : List Row → Text → List Text
dead_words rows name = name ∷ decimal (length (rows_of name rows)) ∷ flat_map row_words (rows_of name rows)

-- the entries that a plan gives to this consumer
abbrev pub ids_to : List (Id × Text) → Text → List Id
ids_to moves name = map (λ move. move.0) (filter (λ move. pointwise nat_eq name move.1) moves)

abbrev pub soft_word : Option (ℕ × ℕ) → Text
soft_word None = codes "-"
soft_word (Some tier) = decimal tier.0

-- a live consumer: its limit, its soft limit, how many entries it gets, how many of them without a fee, the prices of
-- its tiers, and the entries
abbrev pub live_words : Live → List Id → List ℕ → List Text
live_words consumer ids prices =
    consumer.name ∷ decimal consumer.limit ∷ soft_word consumer.tier ∷ decimal (length ids)
    ∷ decimal (min (length ids) (free_room consumer)) ∷ decimal (slice_index_or prices 0 0)
    ∷ decimal (slice_index_or prices 1 0) ∷ map spelling ids

-- the live consumers, with the prices of each
abbrev pub lives_words : List (Id × Text) → List Live → List (Text × List ℕ) → List Text
lives_words moves [] prices = []
lives_words moves (consumer ∷ live) prices =
    live_words consumer (ids_to moves consumer.name) (slice_index_or prices 0 ([], [])).1
    ++ lives_words moves live (drop 1 prices)

-- the last entry that is compared: all, if there is none
abbrev pub last_word : Option Id → Text
last_word None = codes "+"
last_word (Some id) = spelling id

-- how often an entry has been delivered at most: any number of times, if no number is asked for
abbrev pub most_word : Option ℕ → Text
most_word None = codes "-"
most_word (Some most) = decimal most

-- all words behind the key: the group, by how much the plan may cost more than a cheapest one, up to which id is
-- compared, for how many milliseconds each entry has to have been idle and how often it has been delivered at most, how
-- many entries had been removed from the stream, the dead, and the live
abbrev pub plan_words : Text → ℕ → Text → Claimable → ℕ → List Text → List Row → List (Id × Text) → List Live
    → List (Text × List ℕ) → List Text
plan_words group within last claimable removed dead rows moves live prices =
    group ∷ decimal within ∷ last ∷ decimal claimable.idle ∷ most_word claimable.most_deliveries ∷ decimal removed
    ∷ decimal (length dead) ∷ []
    ++ flat_map (dead_words rows) dead
    ++ decimal (length live) ∷ []
    ++ lives_words moves live prices

-- the words for a plan, with the live consumers as they are bounded; none for a shortage
abbrev pub words_for : Text → ℕ → Text → Claimable → ℕ → List Row → List Live → SnapshotState → PlanAnswer
    → Option (List Text)
words_for group within last claimable removed rows live shown (best assign prices total) =
    Some (plan_words group within last claimable removed shown.dead rows (moves_of shown assign) live
    (prices_by shown.live prices))
words_for group within last claimable removed rows live shown (short set) = None
