use Rattle.std.proofs.Common.{◌≡◌, ◌-◌, ◌+◌, ◌≤◌, ℕ, ap, ◌∙◌, arith}
use Rattle.sr_seats.specs.Held.{SeatState}
use Rattle.sr_seats.proofs.seat.Seat.count.Goals as goal

-- a seat whose part of the ledger has one more has made one more
abbrev one_more_by : ℕ → SeatState → SeatState
one_more_by index seat = record { number = seat.number; before = seat.before; share = seat.share + 1; front = index }

one_more : (number before amount front after index : ℕ) (seat : SeatState) → before ≤ amount → after ≡ amount + 1
    → record { number = number; before = before; share = amount - before; front = front } ≡ seat
    → record { number = number; before = before; share = after - before; front = index } ≡ one_more_by index seat
one_more number before amount front after index seat within more is =
    let made : after - before ≡ amount - before + 1 = omega (arith, within, more) in
    ap (λ (n : ℕ). record { number = number; before = before; share = n; front = index }) made ∙ ap (one_more_by index) is

pub returns-clause-seat : goal.returns-clause-seat
returns-clause-seat g c =
    let seat = c.self.inside in
    one_more seat.number seat.before seat.share.amount seat.front _ c.args.index c.args.self.now c.self.invariant.1 c.add.ensures.amount c.self.view_is
