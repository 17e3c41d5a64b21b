-- What an answer to a problem with steps says when it is right.

use Rattle.std.specs.Prelude.{◌≡◌, ℕ, ◌≤◌, List, length, slice_index, EachIndex, All}
use Rattle.sr_transport.specs.{greatest_price, Transport, consumers}
use Rattle.sr_transport.specs.plain.Assignment.{IsAssignment}
use Rattle.sr_transport.specs.plain.Certificate.{IsLeast, IsShortage}
use Rattle.sr_solver.specs.declared.stepped.Answer.{Answer}
use Rattle.sr_solver.specs.declared.stepped.Answer.TheVariants.{Placed, Short}
use Rattle.sr_solver.specs.declared.stepped.Step.{Step}
use Rattle.sr_solver.specs.Placed.{AreLevel}

-- an assignment, and a price for each consumer, none of them great: each entry is where cost and price are least, and
-- each price is level with the fees
pub record IsPriced (p : Transport) (steps : List Step) (xs prices : List ℕ) : Type 0 where
  pub assignment : IsAssignment p xs
  pub one_each : length prices ≡ consumers p
  pub least : EachIndex xs (λ i. IsLeast p prices i (slice_index xs i))
  pub level : AreLevel p steps xs prices
  pub small : All (λ price. price ≤ greatest_price) prices

-- the entries are placed, or there are too few places
abbrev pub IsAnswer : Transport → List Step → Answer → Type 0
IsAnswer p steps (Placed assign prices) = IsPriced p steps assign.items prices.items
IsAnswer p steps (Short set) = IsShortage p set.items
