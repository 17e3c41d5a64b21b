use Rattle.std.proofs.Common.{rules, ◌≡◌, ◌<◌, length, get_or, sym, ◌∙◌, refl}
use Rattle.std.proofs.lemmas.Bool.{eqb-true}
use Rattle.std.proofs.lemmas.Option.{slice_get_read}
use Rattle.sr_book.proofs.sessions.is_at.Goals as goal

pub returns-in-Some : goal.returns-in-Some
returns-in-Some c = λ yes.
    let sessions = c.args.sessions.now in
    let session = c.in-Some.session.now in
    let within : c.args.place < length sessions = search rules in
    let read : session ≡ get_or sessions c.args.place session = search rules in
    record {
      session = session;
      here = slice_get_read sessions (length sessions) c.args.place session refl within read;
      same = eqb-true session.number c.args.number (sym c.is_numbered.ensures ∙ yes);
    }
