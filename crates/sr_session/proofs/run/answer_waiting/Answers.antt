use Rattle.std.proofs.Common.{[], ◌++◌, refl, sym, ap, ◌∙◌, subst}
use Rattle.std.proofs.KnownBytes.{Appends-nil}
use Rattle.sr_resp.specs.{Progress}
use Rattle.sr_session.specs.Desk.{IsIdle}
use Rattle.sr_session.proofs.RunLemmas.{IsNoted-err, err_as, on_ok_none}
use Rattle.sr_session.proofs.UnderwayLemmas.{IsAnswering-start, IsCutOff-from_answering}
use Rattle.sr_session.proofs.run.answer_waiting.Goals as goal

pub returns-in_err-asked : goal.returns-in_err-asked
returns-in_err-asked g c =
    let failed = c.from_residual.ensures.0 in
    let is = c.from_residual.ensures.1 in
    record {
      ok = on_ok_none _ _ failed;
      none_wait = on_ok_none _ _ failed;
      failed = c.read_waiting.ensures.failed;
      idle = on_ok_none _ _ failed;
      err = err_as _ _ _ is ([], Appends-nil _, λ found taken written start. IsCutOff-from_answering _ found taken (written ++ []) _ _ _ _ (IsAnswering-start _ found taken written _ _ _ _ start));
      end = err_as _ _ _ is tt;
      noted = IsNoted-err _ _ _ _ _ is refl refl;
      same = refl;
    }

pub returns-in_err-answer_all : goal.returns-in_err-answer_all
returns-in_err-answer_all g c =
    let failed = c.from_residual-in_err-answer_all.ensures.0 in
    let one = c.in_err-answer_all.ensures.err in
    let is = c.from_residual-in_err-answer_all.ensures.1 in
    record {
      ok = on_ok_none _ _ failed;
      none_wait = on_ok_none _ _ failed;
      failed = c.read_waiting.ensures.failed;
      idle = on_ok_none _ _ failed;
      err = err_as _ _ _ is (one.0, one.1, λ found taken written start. one.2 c.args.requests.now c.in_ok-asked.ensures.asked found taken written start);
      end = err_as _ _ _ is c.in_err-answer_all.ensures.end;
      noted = IsNoted-err _ _ _ _ _ is refl c.in_err-answer_all.ensures.noted;
      same = c.answer_all.ensures.same;
    }

pub returns : goal.returns
returns g c =
    let one = c.in_ok-answer_all.ensures.ok in
    record {
      ok = (one.0, one.1, λ found taken written start. rw (c.pause.ensures.shows, c.in_ok-asked.ensures.ok) (one.2 c.args.requests.now c.in_ok-asked.ensures.asked found taken written start));
      none_wait = ap (λ (p : Progress). p.waiting) c.in_ok-asked.ensures.ok;
      failed = c.read_waiting.ensures.failed;
      idle = subst (IsIdle c.args.session) (sym c.pause.ensures.shows) c.in_ok-answer_all.ensures.idle;
      err = tt;
      end = tt;
      noted = c.in_ok-answer_all.ensures.noted;
      same = c.pause.ensures.same ∙ c.answer_all.ensures.same;
    }
