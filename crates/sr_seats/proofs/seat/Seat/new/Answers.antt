use Rattle.std.proofs.Common.{◌≡◌, ◌-◌, ℕ, ap, arith}
use Rattle.sr_seats.specs.Held.{SeatState}
use Rattle.sr_seats.proofs.seat.Seat.new.Goals as goal

-- a seat of which each event was there before has made none
abbrev unused_seat : ℕ → ℕ → SeatState
unused_seat number before = record { number = number; before = before; share = 0; front = 0 }

unused : (number before amount : ℕ) → amount ≡ before → record { number = number; before = before; share = amount - before; front = 0 } ≡ unused_seat number before
unused number before amount is =
    let none : amount - before ≡ 0 = omega (arith, is) in
    ap (λ (n : ℕ). record { number = number; before = before; share = n; front = 0 }) none

pub returns : goal.returns
returns g c = unused c.args.number c.args.before c.args.share.amount c.requires.unused
