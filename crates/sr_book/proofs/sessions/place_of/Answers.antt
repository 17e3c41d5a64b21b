use Rattle.std.proofs.Common.{rules, ◌≡◌, ◌==◌, ◌≤◌, ◌<◌, Bool, false, nat_lt, Some, None, length, slice_get, get_or, sym, ◌∙◌, refl}
use Rattle.std.proofs.lemmas.Bool.{eqb-true, eqb-false}
use Rattle.std.proofs.lemmas.Option.{slice_get_past, slice_get_read}
use Rattle.sr_pending.proofs.Splitting.{Splits-counted}
use Rattle.sr_book.specs.Layout.{below}
use Rattle.sr_book.specs.Server.{Session}
use Rattle.sr_book.proofs.SessionLemmas.{below_first, is_open-no_place}
use Rattle.sr_book.proofs.sessions.place_of.Goals as goal

pub returns-in-None-clause-none : goal.returns-in-None-clause-none
returns-in-None-clause-none c =
    let sessions = c.args.sessions.now in
    let number = c.args.number in
    let before : Session → Bool = λ s. nat_lt s.number number in
    let place = below number sessions in
    let past : length sessions ≤ c.count_below-place.result = search rules in
    let nothing : slice_get sessions place ≡ None = rw c.count_below-place.ensures at (slice_get_past sessions c.count_below-place.result past) in
    is_open-no_place number sessions place c.requires (Splits-counted before sessions (below_first sessions number c.requires)) (λ x here same. absurd (let both = sym nothing ∙ here in cc))

pub returns-then-is_numbered-clause-found : goal.returns-then-is_numbered-clause-found
returns-then-is_numbered-clause-found c =
    let sessions = c.args.sessions.now in
    let place = c.count_below-place.result in
    let session = c.in-Some.session.now in
    let within : place < length sessions = search rules in
    let read : session ≡ get_or sessions place session = search rules in
    record {
      session = session;
      here = slice_get_read sessions (length sessions) place session refl within read;
      same = eqb-true session.number c.args.number (sym c.is_numbered.ensures ∙ c.if-is_numbered.true);
    }

pub returns-else-is_numbered-clause-none : goal.returns-else-is_numbered-clause-none
returns-else-is_numbered-clause-none c =
    let sessions = c.args.sessions.now in
    let number = c.args.number in
    let before : Session → Bool = λ s. nat_lt s.number number in
    let place = below number sessions in
    let session = c.in-Some.session.now in
    let within : c.count_below-place.result < length sessions = search rules in
    let read : session ≡ get_or sessions c.count_below-place.result session = search rules in
    let here : slice_get sessions place ≡ Some session = rw c.count_below-place.ensures at (slice_get_read sessions (length sessions) c.count_below-place.result session refl within read) in
    let apart : (session.number == number) ≡ false = sym c.is_numbered.ensures ∙ c.if-is_numbered.false in
    is_open-no_place number sessions place c.requires (Splits-counted before sessions (below_first sessions number c.requires)) (λ x there same.
    let one : session ≡ x = let both = sym here ∙ there in cc in
    let has : session.number ≡ number = rw one same in
    eqb-false session.number number apart has)
