-- A verdict on a snapshot: a cheapest plan with the prices that show it, or a shortage that shows that there is none.
-- Source: docs/RECOVERY.md.

use Rattle.std.specs.Prelude.{⊤, ℕ, ◌≤◌, List, All, map, Option, Some, None}
use Rattle.sr_ids.specs.declared.id.Id.{Id}
use Rattle.sr_policy.specs.{problem_of, Text, SnapshotState}
use Rattle.sr_policy.specs.Snapshot.{IsSnapshot}
use Rattle.sr_transport.specs.{greatest_price}
pub use Rattle.sr_check.specs.PlanAnswer.{PlanAnswer, best, short, IsShown, IsWorth, name_at, id_at, moves_of}
pub use Rattle.sr_check.specs.PlanAnswer.{prices_by}

-- a snapshot, and an answer to its problem
pub record Judged : Type 0 where
  pub snapshot : SnapshotState
  pub answer : PlanAnswer

-- no price of a plan is above the greatest that a solution needs
abbrev pub HasSmallPrices : PlanAnswer → Type 0
HasSmallPrices (best assign prices total) = All (λ price. price ≤ greatest_price) prices
HasSmallPrices (short set) = ⊤

-- the snapshot is one, and the answer shows that it is right, with small prices
pub record IsVerdict (judged : Judged) : Type 0 where
  pub snapshot : IsSnapshot judged.snapshot
  pub shown : IsShown (problem_of judged.snapshot) judged.answer
  pub small : HasSmallPrices judged.answer

-- what a verdict says: a plan has moves, a total and the prices of each consumer, and a shortage has its entries' ids
abbrev pub moves_in : SnapshotState → PlanAnswer → Option (List (Id × Text))
moves_in shown (best assign prices total) = Some (moves_of shown assign)
moves_in shown (short set) = None

abbrev pub total_in : PlanAnswer → Option ℕ
total_in (best assign prices total) = Some total
total_in (short set) = None

abbrev pub prices_in : SnapshotState → PlanAnswer → Option (List (Text × List ℕ))
prices_in shown (best assign prices total) = Some (prices_by shown.live prices)
prices_in shown (short set) = None

abbrev pub shortage_in : SnapshotState → PlanAnswer → Option (List Id)
shortage_in shown (best assign prices total) = None
shortage_in shown (short set) = Some (map (id_at shown.stranded) set)
