use Rattle.std.proofs.Common.{[], ◌++◌, refl, sym, ◌∙◌, subst}
use Rattle.std.proofs.lemmas.Result.{IfErr-weaker}
use Rattle.std.proofs.KnownBytes.{Appends-nil, Appends-trans}
use Rattle.sr_session.specs.steps.Underway.{IsPieceEnd}
use Rattle.sr_session.proofs.RunLemmas.{IsNoted-err, err_as, IsNoted-after, on_ok_always, on_ok_both, on_ok_none}
use Rattle.sr_session.proofs.UnderwayLemmas.{IsAnswering-begin, IsCutOff-before, IsCutOff-from_answering, GoesOn-sent, EndsAs-unsent, IsBroken-sent, EndsAs-broken_unsent}
use Rattle.sr_session.proofs.run.take_piece.Goals as goal

pub returns-in_err-broken : goal.returns-in_err-broken
returns-in_err-broken g c =
    let failed = c.from_residual.ensures.0 in
    let is = c.from_residual.ensures.1 in
    record {
      gathered = on_ok_none _ _ failed;
      ok = on_ok_none _ _ failed;
      idle = on_ok_none _ _ failed;
      err = err_as _ _ _ is ([], Appends-nil _, λ found taken written start. IsCutOff-before _ found taken written c.args.piece.now _ _ _ start);
      end = err_as _ _ _ is tt;
      noted = IsNoted-err _ _ _ _ _ is refl refl;
      same = refl;
    }

pub returns-in_err-answer_waiting : goal.returns-in_err-answer_waiting
returns-in_err-answer_waiting g c =
    let failed = c.from_residual-in_err-answer_waiting.ensures.0 in
    let one = c.in_err-answer_waiting.ensures.err in
    let is = c.from_residual-in_err-answer_waiting.ensures.1 in
    record {
      gathered = on_ok_none _ _ failed;
      ok = on_ok_none _ _ failed;
      idle = on_ok_none _ _ failed;
      err = err_as _ _ _ is (one.0, one.1, λ found taken written start. one.2 found (taken ++ c.args.piece.now) written (IsAnswering-begin _ found taken written c.args.piece.now _ _ _ _ _ c.requires.none_gathered c.in_ok-broken.ensures.advances start));
      end = err_as _ _ _ is c.in_err-answer_waiting.ensures.end;
      noted = IsNoted-err _ _ _ _ _ is refl c.in_err-answer_waiting.ensures.noted;
      same = c.answer_waiting.ensures.same;
    }

pub returns-in_err-gather_error : goal.returns-in_err-gather_error
returns-in_err-gather_error g c =
    let failed = c.from_residual-in_err-gather_error.ensures.0 in
    let one = c.in_ok-answer_waiting.ensures.ok in
    let is = c.from_residual-in_err-gather_error.ensures.1 in
    record {
      gathered = on_ok_none _ _ failed;
      ok = on_ok_none _ _ failed;
      idle = on_ok_none _ _ failed;
      err = err_as _ _ _ is (one.0, one.1, λ found taken written start. IsCutOff-from_answering _ found _ _ _ _ _ _ (one.2 found (taken ++ c.args.piece.now) written (IsAnswering-begin _ found taken written c.args.piece.now _ _ _ _ _ c.requires.none_gathered c.in_ok-broken.ensures.advances start)));
      end = err_as _ _ _ is tt;
      noted = IsNoted-err _ _ _ _ _ is refl c.in_ok-answer_waiting.ensures.noted;
      same = c.answer_waiting.ensures.same;
    }

pub returns-in_err-send : goal.returns-in_err-send
returns-in_err-send g c =
    let failed = c.from_residual-in_err-send.ensures.0 in
    let one = c.in_ok-answer_waiting.ensures.ok in
    let part = c.in_err-send.ensures.err in
    let is = c.from_residual-in_err-send.ensures.1 in
    let broken = c.answer_waiting.ensures.failed ∙ sym c.in_ok-broken.ensures.ok ∙ c.if-broken.true in
    record {
      gathered = on_ok_none _ _ failed;
      ok = on_ok_none _ _ failed;
      idle = on_ok_none _ _ failed;
      err = err_as _ _ _ is (one.0 ++ part.0, Appends-trans _ _ _ one.0 part.0 one.1 part.1, λ found taken written start. EndsAs-broken_unsent _ _ found (taken ++ c.args.piece.now) written one.0 _ _ part.0 _ _ _ _ _ c.in_ok-answer_waiting.ensures.none_wait broken c.in_ok-gather_error.ensures.ok c.gather_error.ensures.sent part.2 (one.2 found (taken ++ c.args.piece.now) written (IsAnswering-begin _ found taken written c.args.piece.now _ _ _ _ _ c.requires.none_gathered c.in_ok-broken.ensures.advances start)));
      end = err_as _ _ _ is (subst IsPieceEnd (sym part.2.told) tt);
      noted = IsNoted-err _ _ _ _ _ is c.in_ok-answer_waiting.ensures.noted c.in_err-send.ensures.noted;
      same = c.answer_waiting.ensures.same;
    }

pub returns-then-broken : goal.returns-then-broken
returns-then-broken g c =
    let one = c.in_ok-answer_waiting.ensures.ok in
    let broken = c.answer_waiting.ensures.failed ∙ sym c.in_ok-broken.ensures.ok ∙ c.if-broken.true in
    let whole = c.gather_error.new.self.gathered.items in
    record {
      gathered = tt;
      ok = tt;
      idle = tt;
      err = (one.0 ++ whole, Appends-trans _ _ _ one.0 whole one.1 c.in_ok-send.ensures.ok, λ found taken written start. IsBroken-sent _ found (taken ++ c.args.piece.now) written one.0 _ whole _ _ _ c.in_ok-answer_waiting.ensures.none_wait broken c.in_ok-gather_error.ensures.ok (one.2 found (taken ++ c.args.piece.now) written (IsAnswering-begin _ found taken written c.args.piece.now _ _ _ _ _ c.requires.none_gathered c.in_ok-broken.ensures.advances start)));
      end = tt;
      noted = c.in_ok-send.ensures.noted ∙ c.in_ok-answer_waiting.ensures.noted;
      same = c.answer_waiting.ensures.same;
    }

pub returns : goal.returns
returns g c =
    let one = c.in_ok-answer_waiting.ensures.ok in
    let sound = c.answer_waiting.ensures.failed ∙ sym c.in_ok-broken.ensures.ok ∙ c.if-broken.false in
    let all = c.answer_waiting.new.replies.gathered.items in
    record {
      gathered = c.send-2.ensures.gathered;
      ok = on_ok_both c.send-2.result c.send-2.ensures.ok c.send-2.ensures.sent
          (λ writes counts. (one.0 ++ all, Appends-trans _ _ _ one.0 all one.1 writes, λ found taken written start. GoesOn-sent _ found (taken ++ c.args.piece.now) written one.0 all _ _ _ _ c.in_ok-answer_waiting.ensures.none_wait sound counts (one.2 found (taken ++ c.args.piece.now) written (IsAnswering-begin _ found taken written c.args.piece.now _ _ _ _ _ c.requires.none_gathered c.in_ok-broken.ensures.advances start))));
      idle = on_ok_always c.send-2.result c.in_ok-answer_waiting.ensures.idle;
      err = IfErr-weaker c.send-2.result _ _ (λ end part. (one.0 ++ part.0, Appends-trans _ _ _ one.0 part.0 one.1 part.1, λ found taken written start. EndsAs-unsent _ _ found (taken ++ c.args.piece.now) written one.0 _ part.0 _ _ _ end part.2 (one.2 found (taken ++ c.args.piece.now) written (IsAnswering-begin _ found taken written c.args.piece.now _ _ _ _ _ c.requires.none_gathered c.in_ok-broken.ensures.advances start)))) c.send-2.ensures.err;
      end = IfErr-weaker c.send-2.result _ _ (λ end part. subst IsPieceEnd (sym part.2.told) tt) c.send-2.ensures.err;
      noted = IsNoted-after c.send-2.result _ _ _ c.in_ok-answer_waiting.ensures.noted c.send-2.ensures.noted;
      same = c.answer_waiting.ensures.same;
    }
