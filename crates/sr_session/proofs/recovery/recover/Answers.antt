use Rattle.std.proofs.Common.{refl}
use Rattle.std.proofs.lemmas.Result.{IfOk-weaker}
use Rattle.sr_session.specs.Answered.{at_once}
use Rattle.sr_session.specs.Unanswered.{is_refused}
use Rattle.sr_session.proofs.DeskLemmas.{stray-recovery, stray-unanswered}
use Rattle.sr_session.proofs.GrowthLemmas.{Adds-recorded, Adds-replied}
use Rattle.sr_session.proofs.RoundLemmas.{asked-leaves_idle, rounds-err, rounds-ok}
use Rattle.sr_session.proofs.recovery.recover.Goals as goal

pub returns-in-Reply-clause-ok : goal.returns-in-Reply-clause-ok
returns-in-Reply-clause-ok g c =
    rw c.in-Reply.reply-is (at_once c.now.result c.in-Ok.answer c.now.ensures c.in-Ok.ensures.step c.in-Reply.is (Adds-recorded _ _ _ _ (Adds-replied _ _ _ _ refl _ _ _ c.in-Ok.ensures.step c.in-Reply.is)))

pub returns-in-Reply-clause-idle : goal.returns-in-Reply-clause-idle
returns-in-Reply-clause-idle g c = λ idle. asked-leaves_idle _ _ _ _ _ _ refl c.in-Ok.ensures.step

pub returns-in-Ok : goal.returns-in-Ok
returns-in-Ok g c = record {
  ok = tt;
  idle = tt;
  err = stray-unanswered _ _ c.now.result _ c.in-Ok.answer _ _ _ c.now.ensures c.in-Ok.ensures.step (stray-recovery c.in-Ok.answer.out c.in-Joined.is);
  same = c.in-Ok.ensures.same;
}

pub returns-clause-err : goal.returns-clause-err
returns-clause-err g c = is_refused c.now.result c.now.ensures c.in-Err.ensures.step

pub returns-in-Snap-clause-ok : goal.returns-in-Snap-clause-ok
returns-in-Snap-clause-ok g c =
    let a = c.args in
    let middle = g.D.Desk.shows c.step.new.self in
    rounds-ok (g.C.Clock.may_tell a.clock.now) a.session a.apply a.tries a.key a.group a.dead c.now.result c.in-Ok.answer c.in-Snap.snapshot (g.D.Desk.shows a.desk.now) middle
    (g.D.Desk.shows c.make_rounds.new.desk) c.make_rounds.result c.now.ensures c.in-Ok.ensures.step c.in-Snap.is _ c.max-rounds.ensures _ c.in-Snap.snapshot-is c.make_rounds.ensures.ok c.make_rounds.ensures.recorded

pub returns-in-Snap-clause-idle : goal.returns-in-Snap-clause-idle
returns-in-Snap-clause-idle g c =
    IfOk-weaker c.make_rounds.result _ _ (λ reply goes idle. goes (asked-leaves_idle _ _ _ _ _ _ refl c.in-Ok.ensures.step)) c.make_rounds.ensures.idle

pub returns-in-Snap-clause-err : goal.returns-in-Snap-clause-err
returns-in-Snap-clause-err g c =
    let a = c.args in
    let middle = g.D.Desk.shows c.step.new.self in
    rounds-err (g.C.Clock.may_tell a.clock.now) a.session a.apply a.tries a.key a.group a.dead c.now.result c.in-Ok.answer c.in-Snap.snapshot (g.D.Desk.shows a.desk.now) middle
    (g.D.Desk.shows c.make_rounds.new.desk) c.make_rounds.result c.now.ensures c.in-Ok.ensures.step c.in-Snap.is _ c.max-rounds.ensures _ c.in-Snap.snapshot-is c.make_rounds.ensures.err c.make_rounds.ensures.unrecorded
