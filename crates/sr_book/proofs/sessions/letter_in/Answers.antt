use Rattle.std.proofs.Common.{◌≡◌, Some, ◌<◌, length, slice_get, sym, ◌∙◌, refl, ap}
use Rattle.std.proofs.lemmas.Option.{slice_get_read, slice_get_within}
use Rattle.sr_book.specs.Server.{Session}
use Rattle.sr_book.proofs.SessionLemmas.{letter_of-none, letter_of-place}
use Rattle.sr_book.proofs.sessions.letter_in.Goals as goal

pub returns-in-None : goal.returns-in-None
returns-in-None c = sym (letter_of-none c.args.number c.args.sessions.now c.in-None.ensures.none)

pub returns-in-Some : goal.returns-in-Some
returns-in-Some c =
    let sessions = c.args.sessions.now in
    let place = c.in-Some.place in
    let found = c.in-Some.ensures.found in
    let session : Session = c.index-sessions-place.result in
    let within : place < length sessions = slice_get_within sessions place found.session found.here in
    let here : slice_get sessions place ≡ Some session = slice_get_read sessions (length sessions) place session refl within c.index-sessions-place.is in
    let same : session ≡ found.session = let both : Some session ≡ Some found.session = sym here ∙ found.here in cc in
    c.letter.ensures ∙ ap (λ (s : Session). s.letter) same ∙ sym (letter_of-place c.args.number sessions place found.session c.requires found.here found.same)
