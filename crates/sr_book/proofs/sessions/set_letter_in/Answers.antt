use Rattle.std.proofs.Common.{◌≡◌, false, sym}
use Rattle.sr_book.specs.Server.{is_open}
use Rattle.sr_book.specs.Layout.{IsPlace}
use Rattle.sr_book.proofs.SessionLemmas.{with_letter-none, with_letter-set}
use Rattle.sr_book.proofs.sessions.set_letter_in.Goals as goal

pub returns-in-Some : goal.returns-in-Some
returns-in-Some c =
    let sessions = c.args.sessions.now.items in
    let at : IsPlace c.args.number sessions c.in-Some.place = rw c.as_slice.ensures.value at c.in-Some.ensures.found in
    with_letter-set c.args.number c.args.letter sessions c.in-Some.place at.session c.requires at.here at.same

pub returns-in-None : goal.returns-in-None
returns-in-None c =
    let sessions = c.args.sessions.now.items in
    let none : is_open c.args.number sessions ≡ false = rw c.as_slice.ensures.value at c.in-None.ensures.none in
    sym (with_letter-none c.args.number c.args.letter sessions none)
