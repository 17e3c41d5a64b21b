-- How large sums can be within the limits of a problem.
use Rattle.std.proofs.Common.{◌≡◌, ℕ, ◌+◌, ◌*◌, ◌<◌, ◌≤◌, Bool, true, false, cond, List, length, Option, Some, None}
use Rattle.std.proofs.Common.{inl, inr, arith}
use Rattle.std.specs.Prelude.{IfSome, unwrap_or}
use Rattle.std.proofs.lemmas.Bool.{cases_lt}
use Rattle.std.proofs.lemmas.List.{get_or_past}
use Rattle.std.proofs.lemmas.List.Elements.{All-get_or}
use Rattle.sr_transport.specs.Sum.{sum_below}
use Rattle.sr_transport.specs.Limits.{greatest_room, greatest_charge}
use Rattle.sr_transport.specs.plain.Problem.{Transport, IsWithinLimits, consumers, room_of, cost_at, cost_of}
use Rattle.sr_transport.specs.plain.Certificate.{is_reached}
use Rattle.sr_transport.proofs.SumLemmas.{sum_below-le_most}

pub room_small : (p : Transport) (c : ℕ) → IsWithinLimits p.rooms p.entries p.costs → c < consumers p
    → room_of p c ≤ greatest_room
room_small p c limits lt = limits.small_rooms c 0 lt

counted_small : (counted : Bool) (room most : ℕ) → room ≤ most → cond counted room 0 ≤ most
counted_small true room most le = le
counted_small false room most le = omega arith

-- the places at the first consumers
pub places_small : (p : Transport) (set : List ℕ) (n : ℕ) → IsWithinLimits p.rooms p.entries p.costs → n ≤ consumers p
    → sum_below (λ c. cond (is_reached p set c) (room_of p c) 0) n ≤ n * greatest_room
places_small p set n limits le =
    sum_below-le_most (λ c. cond (is_reached p set c) (room_of p c) 0) greatest_room n
    (λ c lt. counted_small (is_reached p set c) (room_of p c) greatest_room (room_small p c limits (omega arith)))

-- the costs
some_small : (cost : Option ℕ) → IfSome cost (λ c. c ≤ greatest_charge) → unwrap_or cost 0 ≤ greatest_charge
some_small None small = omega arith
some_small (Some c) small = small

pub cost_at_small : (p : Transport) → IsWithinLimits p.rooms p.entries p.costs → (i c : ℕ)
    → IfSome (cost_at p i c) (λ n. n ≤ greatest_charge)
cost_at_small p limits i c =
    elim (cases_lt (i * length p.rooms + c) (length p.costs)) [
      | inl lt ↦ All-get_or (λ cost. IfSome cost (λ n. n ≤ greatest_charge)) p.costs
          (i * length p.rooms + c) None lt limits.small_costs
      | inr past ↦
          let none : cost_at p i c ≡ None = get_or_past p.costs (i * length p.rooms + c) None past in rw none tt
    ]

pub cost_small : (p : Transport) → IsWithinLimits p.rooms p.entries p.costs → (i c : ℕ)
    → cost_of p i c ≤ greatest_charge
cost_small p limits i c = some_small (cost_at p i c) (cost_at_small p limits i c)
