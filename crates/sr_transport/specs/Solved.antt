-- What an answer to a problem says when it is right, and what it is worth.

use Rattle.std.specs.Prelude.{⊤, ◌≡◌, ℕ, ◌≤◌, List, All}
use Rattle.sr_transport.specs.Limits.{greatest_total, greatest_price}
use Rattle.sr_transport.specs.Problem.{Tiered}
use Rattle.sr_transport.specs.Assignment.{IsAssignment, total_of, IsCheapest, HasNoAssignment}
use Rattle.sr_transport.specs.Certificate.{ShowsCheapest, IsShortage}
use Rattle.sr_transport.specs.declared.solved.Solved.{Solved}
use Rattle.sr_transport.specs.declared.solved.Solved.TheVariants.{Best, Short}

-- an assignment with its total, and prices that show it a cheapest one
pub record IsBest (p : Tiered) (assign prices : List ℕ) (total : ℕ) : Type 0 where
  pub assignment : IsAssignment p assign
  pub shown : ShowsCheapest p assign prices
  pub sum : total ≡ total_of p assign
  pub small_total : total ≤ greatest_total

-- the answer says what it is, and shows it: the best assignment, or a set of entries with too few places
abbrev pub IsSolution : Tiered → Solved → Type 0
IsSolution p (Best assign prices total) = IsBest p assign.items prices.items total
IsSolution p (Short set) = IsShortage p set.items

-- no price is above the greatest that a solution needs
abbrev pub HasSmallPrices : Solved → Type 0
HasSmallPrices (Best assign prices total) = All (λ price. price ≤ greatest_price) prices.items
HasSmallPrices (Short set) = ⊤

-- no assignment costs less than the one given; or none exists
abbrev pub IsOptimal : Tiered → Solved → Type 0
IsOptimal p (Best assign prices total) = IsAssignment p assign.items × IsCheapest p assign.items
IsOptimal p (Short set) = HasNoAssignment p
