-- Where every entry is placed, the problem is solved.
use Rattle.std.proofs.Common.{ℕ, ◌≤◌, List, arith}
use Rattle.sr_transport.specs.{greatest_price, Transport}
use Rattle.std.specs.List.{All}
use Rattle.std.proofs.lemmas.List.Elements.{All-from_get_or}
use Rattle.sr_transport.specs.plain.Assignment.{IsAssignment}
use Rattle.sr_solver.specs.declared.placement.Placement.{Placement}
use Rattle.sr_solver.specs.declared.stepped.Step.{Step}
use Rattle.sr_solver.specs.Answered.{IsPriced}
use Rattle.sr_solver.specs.Placed.{IsPlaced, IsStanding}

-- the placement is an assignment
pub placed_assignment : (p : Transport) (xs prices : List ℕ) → IsPlaced p p.entries xs prices → IsAssignment p xs
placed_assignment p xs prices placed = record {
  every = placed.every;
  placement = record { allowed = λ i lt. placed.placed i (omega (arith, lt, placed.every)); in_room = placed.in_room };
}

-- no price is too great
pub placed_prices : (p : Transport) (xs prices : List ℕ) → IsPlaced p p.entries xs prices
    → All (λ price. price ≤ greatest_price) prices
placed_prices p xs prices placed =
    All-from_get_or (λ price. price ≤ greatest_price) prices 0
    (λ c lt. omega (arith, placed.low c (omega (arith, lt, placed.one_each)), placed.limits.few_entries))

-- so the answer is right
pub placed_priced : (p : Transport) (s : List Step) (placement : Placement) → IsStanding p s p.entries placement
    → IsPriced p s placement.assign.items placement.prices.items
placed_priced p s placement standing =
    let placed = standing.placed in
    record {
      assignment = placed_assignment p placement.assign.items placement.prices.items placed;
      one_each = placed.one_each;
      least = λ i lt. placed.least i (omega (arith, lt, placed.every));
      level = standing.level;
      small = placed_prices p placement.assign.items placement.prices.items placed;
    }
