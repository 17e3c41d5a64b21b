use Rattle.std.proofs.Common.{sym}
use Rattle.sr_book.proofs.SessionLemmas.{is_open-place}
use Rattle.sr_book.proofs.sessions.is_there.Goals as goal

pub returns-in-Some : goal.returns-in-Some
returns-in-Some c =
    let at = c.in-Some.ensures.found in
    sym (is_open-place c.args.number c.args.sessions.now c.in-Some._place at.session at.here at.same)
