use Rattle.std.proofs.lemmas.Result.{IfErr-weaker, IfOk-weaker}
use Rattle.sr_session.specs.Answered.{at_once, later}
use Rattle.sr_session.specs.Unanswered.{is_refused}
use Rattle.sr_session.proofs.DeskLemmas.{lettered, lost-unanswered, replied-idle, replied-recorded, stray-call, stray-unanswered}
use Rattle.sr_session.proofs.LetterLaws.{lettered-recorded}
use Rattle.sr_session.proofs.calling.carry_out.Goals as goal

pub returns-in-Reply-clause-ok : goal.returns-in-Reply-clause-ok
returns-in-Reply-clause-ok g c =
    rw c.in-Reply.reply-is (at_once c.now.result c.in-Ok.answer c.now.ensures c.in-Ok.ensures.step c.in-Reply.is (replied-recorded _ _ _ _ _ _ _ c.in-Ok.ensures.step c.in-Reply.is))

pub returns-in-Reply-clause-idle : goal.returns-in-Reply-clause-idle
returns-in-Reply-clause-idle g c = λ idle. replied-idle _ _ _ _ _ _ _ c.in-Ok.ensures.step c.in-Reply.is

pub returns-in-Blocked-clause-ok : goal.returns-in-Blocked-clause-ok
returns-in-Blocked-clause-ok g c =
    IfOk-weaker c.await_letter.result _ _ (λ reply letter. later c.now.result c.in-Ok.answer _ letter.0 c.now.ensures c.in-Ok.ensures.step c.in-Blocked.is letter.1 letter.2 (lettered-recorded _ _ _ _ _ _ _ letter.0 _ c.in-Ok.ensures.step c.in-Blocked.is letter.1 letter.2)) c.await_letter.ensures.ok

pub returns-in-Blocked-clause-idle : goal.returns-in-Blocked-clause-idle
returns-in-Blocked-clause-idle g c =
    IfOk-weaker c.await_letter.result _ _ (λ reply letter idle. lettered _ _ _ _ _ _ _ letter.0 c.in-Ok.ensures.step letter.1) c.await_letter.ensures.ok

pub returns-in-Blocked-clause-err : goal.returns-in-Blocked-clause-err
returns-in-Blocked-clause-err g c =
    IfErr-weaker c.await_letter.result _ _ (λ fault loses. lost-unanswered _ _ c.now.result _ c.in-Ok.answer _ _ _ _ c.now.ensures c.in-Ok.ensures.step c.in-Blocked.is loses) c.await_letter.ensures.err

pub returns-in-Ok : goal.returns-in-Ok
returns-in-Ok g c = record {
  ok = tt;
  idle = tt;
  err = stray-unanswered _ _ c.now.result _ c.in-Ok.answer _ _ _ c.now.ensures c.in-Ok.ensures.step (stray-call c.in-Ok.answer.out c.in-Joined.is);
  same = c.in-Ok.ensures.same;
}

pub returns-clause-err : goal.returns-clause-err
returns-clause-err g c = is_refused c.now.result c.now.ensures c.in-Err.ensures.step
