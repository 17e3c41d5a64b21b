use Rattle.std.proofs.Common.{◌≡◌, ◌-◌, ℕ, max, ap, ◌∙◌, arith}
use Rattle.sr_seats.specs.Held.{SeatState, seen_by}
use Rattle.sr_seats.proofs.seat.Seat.see.Goals as goal

-- a seat whose front is the greater one
seen : (number before share front after index : ℕ) (seat : SeatState) → record { number = number; before = before; share = share; front = front } ≡ seat → after ≡ max front index
    → record { number = number; before = before; share = share; front = after } ≡ seen_by index seat
seen number before share front after index seat is greater =
    ap (λ (f : ℕ). record { number = number; before = before; share = share; front = f }) greater ∙ ap (seen_by index) is

pub returns : goal.returns
returns g c =
    let seat = c.self.inside in
    seen seat.number seat.before (seat.share.amount - seat.before) seat.front _ c.args.index c.args.self.now c.self.view_is (omega arith)
