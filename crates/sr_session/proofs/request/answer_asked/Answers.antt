use Rattle.std.proofs.Common.{[], ◌++◌, refl, ap, ◌∙◌, subst}
use Rattle.std.proofs.lemmas.Result.{on_ok_weaker, IfErr-weaker}
use Rattle.std.proofs.KnownBytes.{Appends-nil}
use Rattle.sr_resp.specs.{reply_text, error_reply}
use Rattle.sr_session.specs.Answered.{refuses}
use Rattle.sr_session.specs.steps.Asked.{IsAsked}
use Rattle.sr_session.specs.steps.Gathered.{stay, silent}
use Rattle.sr_session.proofs.GatheredLemmas.{Gathers-made}
use Rattle.sr_session.proofs.RunLemmas.{IsNoted-err, err_as, on_ok_none}
use Rattle.sr_session.proofs.request.answer_asked.Goals as goal

pub returns-in-Ok : goal.returns-in-Ok
returns-in-Ok g c = record {
  ok = on_ok_weaker c.answer_command.result (λ o. (o.0, o.1, λ words asks. o.2 words (subst (IsAsked words) c.in-Ok.is asks))) c.answer_command.ensures.ok;
  idle = c.answer_command.ensures.idle;
  err = IfErr-weaker c.answer_command.result _ _ (λ end e. (e.0, e.1, λ words asks. e.2 words (subst (IsAsked words) c.in-Ok.is asks))) c.answer_command.ensures.err;
  end = c.answer_command.ensures.end;
  noted = c.answer_command.ensures.noted;
  same = c.answer_command.ensures.same;
}

pub returns-in_ok-gather_error-in-Err : goal.returns-in_ok-gather_error-in-Err
returns-in_ok-gather_error-in-Err g c = record {
  ok = ([], Appends-nil _, λ words asks. Gathers-made _ _ _ _ _ _ _ _ _ _ _ _ (stay refl refl refl) c.gather_error.ensures.sent (refuses _ (subst (IsAsked words) c.in-Err.is asks) refl refl) (c.in_ok-gather_error-in-Err.ensures.ok ∙ ap (λ code. c.args.replies.now.gathered.items ++ reply_text (error_reply code)) c.code_of_fault.ensures));
  idle = c.requires.idle;
  err = tt;
  end = tt;
  noted = refl;
  same = refl;
}

pub returns-in_err-gather_error-in-Err : goal.returns-in_err-gather_error-in-Err
returns-in_err-gather_error-in-Err g c =
    let failed = c.from_residual.ensures.0 in
    let is = c.from_residual.ensures.1 in
    record {
      ok = on_ok_none _ _ failed;
      idle = on_ok_none _ _ failed;
      err = err_as _ _ _ is ([], Appends-nil _, λ words asks. silent _ _ _ (stay refl refl refl) (refuses _ (subst (IsAsked words) c.in-Err.is asks) refl refl) refl);
      end = err_as _ _ _ is tt;
      noted = IsNoted-err _ _ _ _ _ is refl refl;
      same = refl;
    }
