-- What a plan gives each consumer: the ids of its entries.
-- Source: docs/RECOVERY.md.

use Rattle.std.specs.Prelude.{ℕ, ◌+◌, ◌==◌, List, [], ◌∷◌, ◌++◌, map, filter}
use Rattle.std.specs.List.{zip}
use Rattle.sr_ids.specs.declared.id.Id.{Id}
use Rattle.sr_policy.specs.declared.live.Live.{Live}
use Rattle.sr_policy.specs.{Text, SnapshotState}
use Rattle.sr_plan.specs.Verdict.{PlanAnswer, best, short}

-- a consumer, and the ids of the entries that it gets
pub record BatchState : Type 0 where
  pub consumer : Text
  pub ids : List Id

-- the ids of the entries that go to consumer c, by id
abbrev pub ids_for : List Id → List ℕ → ℕ → List Id
ids_for ids assign c = map (λ move. move.0) (filter (λ move. move.1 == c) (zip ids assign))

-- a consumer that gets nothing has no batch
abbrev pub batch_of : Text → List Id → List BatchState
batch_of name [] = []
batch_of name (id ∷ ids) = record { consumer = name; ids = id ∷ ids } ∷ []

-- the batches of the consumers from number c on, in byte order of their names
abbrev pub batches_from : List Id → List ℕ → ℕ → List Live → List BatchState
batches_from ids assign c [] = []
batches_from ids assign c (consumer ∷ live) =
    batch_of consumer.name (ids_for ids assign c) ++ batches_from ids assign (c + 1) live

-- the batches of a verdict: none for a shortage
abbrev pub batches_in : SnapshotState → PlanAnswer → List BatchState
batches_in shown (best assign prices total) =
    batches_from (map (λ entry. entry.id) shown.stranded) assign 0 shown.live
batches_in shown (short set) = []
