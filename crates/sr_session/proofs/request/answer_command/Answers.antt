use Rattle.std.proofs.Common.{refl, ◌∙◌}
use Rattle.sr_session.specs.steps.Gathered.{breaks, silent}
use Rattle.sr_session.proofs.GatheredLemmas.{Gathers-made, IsNoted-desk, Stops-failed}
use Rattle.sr_session.proofs.RunLemmas.{IsNoted-err, err_as, IsPieceEnd-desk, on_ok_none}
use Rattle.sr_session.proofs.request.answer_command.Goals as goal

pub returns-in_err-send_before : goal.returns-in_err-send_before
returns-in_err-send_before g c =
    let failed = c.from_residual.ensures.0 in
    let part = c.in_err-send_before.ensures.err in
    let is = c.from_residual.ensures.1 in
    record {
      ok = on_ok_none _ _ failed;
      idle = on_ok_none _ _ failed;
      err = err_as _ _ _ is (part.0, part.1, λ words is_asked. breaks part.2 c.send_before.ensures.shows);
      end = err_as _ _ _ is c.in_err-send_before.ensures.end;
      noted = IsNoted-err _ _ _ _ _ is refl c.in_err-send_before.ensures.noted;
      same = c.send_before.ensures.same;
    }

pub returns-in_err-reply : goal.returns-in_err-reply
returns-in_err-reply g c =
    let failed = c.from_residual-in_err-reply.ensures.0 in
    let before = c.in_ok-send_before.ensures.ok in
    let end = c.in_err-reply.ensures.end in
    let is = c.from_residual-in_err-reply.ensures.1 in
    record {
      ok = on_ok_none _ _ failed;
      idle = on_ok_none _ _ failed;
      err = err_as _ _ _ is (before.0, before.1, λ words is_asked. Stops-failed _ _ _ _ _ _ _ _ _ _ _ before.2 (rw c.send_before.ensures.shows at (c.in_err-reply.ensures.err words is_asked)));
      end = err_as _ _ _ is (IsPieceEnd-desk _ end);
      noted = IsNoted-err _ _ _ _ _ is refl (IsNoted-desk _ _ _ end c.in_ok-send_before.ensures.noted);
      same = c.reply_to.ensures.same ∙ c.send_before.ensures.same;
    }

pub returns-in_err-gather : goal.returns-in_err-gather
returns-in_err-gather g c =
    let failed = c.from_residual-in_err-gather.ensures.0 in
    let before = c.in_ok-send_before.ensures.ok in
    let is = c.from_residual-in_err-gather.ensures.1 in
    record {
      ok = on_ok_none _ _ failed;
      idle = on_ok_none _ _ failed;
      err = err_as _ _ _ is (before.0, before.1, λ words is_asked. silent _ _ _ before.2 (rw c.send_before.ensures.shows at (c.in_ok-reply.ensures.ok words is_asked)) refl);
      end = err_as _ _ _ is tt;
      noted = IsNoted-err _ _ _ _ _ is refl c.in_ok-send_before.ensures.noted;
      same = c.reply_to.ensures.same ∙ c.send_before.ensures.same;
    }

pub returns : goal.returns
returns g c =
    let before = c.in_ok-send_before.ensures.ok in
    record {
      ok = (before.0, before.1, λ words is_asked. Gathers-made _ _ _ _ _ _ _ _ _ _ _ _ before.2 c.gather.ensures.sent (rw c.send_before.ensures.shows at (c.in_ok-reply.ensures.ok words is_asked)) c.in_ok-gather.ensures.ok);
      idle = c.in_ok-reply.ensures.idle;
      err = tt;
      end = tt;
      noted = c.in_ok-send_before.ensures.noted;
      same = c.reply_to.ensures.same ∙ c.send_before.ensures.same;
    }
