-- What an answer to a problem without tiers says when it is right.

use Rattle.std.specs.Prelude.{◌≡◌, ℕ, ◌≤◌, List}
use Rattle.sr_transport.specs.Limits.{greatest_total}
use Rattle.sr_transport.specs.plain.Problem.{Transport}
use Rattle.sr_transport.specs.plain.Assignment.{IsAssignment, total_of}
use Rattle.sr_transport.specs.plain.Certificate.{ShowsCheapest, IsShortage}
use Rattle.sr_transport.specs.declared.solved.Solved.{Solved}
use Rattle.sr_transport.specs.declared.solved.Solved.TheVariants.{Best, Short}

-- an assignment with its total, and prices that show it a cheapest one
pub record IsBest (p : Transport) (assign prices : List ℕ) (total : ℕ) : Type 0 where
  pub assignment : IsAssignment p assign
  pub shown : ShowsCheapest p assign prices
  pub sum : total ≡ total_of p assign
  pub small_total : total ≤ greatest_total

-- the answer says what it is, and shows it: the best assignment, or a set of entries with too few places
abbrev pub IsSolution : Transport → Solved → Type 0
IsSolution p (Best assign prices total) = IsBest p assign.items prices.items total
IsSolution p (Short set) = IsShortage p set.items
