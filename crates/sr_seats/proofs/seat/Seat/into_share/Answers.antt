use Rattle.std.proofs.Common.{◌≡◌, ◌+◌, subst, arith}
use Rattle.sr_seats.specs.Held.{SeatState}
use Rattle.sr_seats.proofs.seat.Seat.into_share.Goals as goal

pub returns-clause-amount : goal.returns-clause-amount
returns-clause-amount g c =
    let seat = c.self.inside in
    let P : SeatState → Type 0 = λ s. seat.share.amount ≡ s.before + s.share in
    subst P c.self.view_is (omega (arith, c.self.invariant.1))
