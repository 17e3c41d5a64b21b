use Rattle.std.proofs.Common.{◌≡◌, ◌∙◌, [], false, refl, sym, true≢false}
use Rattle.std.proofs.KnownBytes.{Consumes-nil, Appends-nil}
use Rattle.std.proofs.lemmas.Result.{IfErr-at_err, IfErr-weaker}
use Rattle.sr_start.specs.declared.fault.Fault.{Fault}
use Rattle.sr_start.specs.Fault.{is_of_session, serves}
use Rattle.sr_start.proofs.ServeLemmas.{not_opened}
use Rattle.sr_start.proofs.program.connect.Goals as goal

pub returns-in-Ok-clause-served : goal.returns-in-Ok-clause-served
returns-in-Ok-clause-served g c =
    let s = c.serve_session.ensures.served in
    let opened = c.in-Ok.ensures.book in
    (s.0, s.1, s.2, s.3, serves opened.0 opened.1 (s.4 opened.0 opened.2))

pub returns-in-Err-clause-served : goal.returns-in-Err-clause-served
returns-in-Err-clause-served g c =
    ([], [], Consumes-nil _, Appends-nil _, not_opened _ _ _ _ c.in-Err.ensures.book)

-- ---- the session was served

pub returns-in-Ok-clause-refused : goal.returns-in-Ok-clause-refused
returns-in-Ok-clause-refused g c =
    IfErr-weaker c.serve_session.result _ _ (λ fault is before. absurd (true≢false (sym is ∙ before))) c.serve_session.ensures.session

pub returns-in-Ok-clause-random : goal.returns-in-Ok-clause-random
returns-in-Ok-clause-random g c = λ e. absurd (true≢false (sym (IfErr-at_err _ e c.serve_session.ensures.session)))

-- ---- there is no book

pub returns-in-Err-clause-ok : goal.returns-in-Err-clause-ok
returns-in-Err-clause-ok g c = (λ e. absurd (true≢false (sym e)), λ e. absurd (true≢false (sym e ∙ c.requires.unread.0)))

pub returns-in-Err-clause-read : goal.returns-in-Err-clause-read
returns-in-Err-clause-read g c =
    (λ e. absurd (true≢false (IfErr-at_err (λ (fault : Fault). is_of_session fault ≡ false) e c.in-Err.ensures.before)), λ e. absurd (true≢false (sym e ∙ c.requires.unread.1)))

pub returns-in-Err-clause-write : goal.returns-in-Err-clause-write
returns-in-Err-clause-write g c =
    (λ e. absurd (true≢false (IfErr-at_err (λ (fault : Fault). is_of_session fault ≡ false) e c.in-Err.ensures.before)), λ e. absurd (true≢false (sym e ∙ c.requires.unwritten)))

pub returns-in-Err-clause-refused : goal.returns-in-Err-clause-refused
returns-in-Err-clause-refused g c = λ is. (refl, refl)
