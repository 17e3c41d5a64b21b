use Rattle.std.proofs.Common.{refl}
use Rattle.sr_session.specs.Answered.{at_once}
use Rattle.sr_session.specs.Unanswered.{is_refused}
use Rattle.sr_session.proofs.DeskLemmas.{stray-board, stray-unanswered}
use Rattle.sr_session.proofs.GrowthLemmas.{Adds-recorded, Adds-replied}
use Rattle.sr_session.proofs.RoundLemmas.{asked-leaves_idle}
use Rattle.sr_session.proofs.calling.show_board.Goals as goal

pub returns-in-Reply-clause-ok : goal.returns-in-Reply-clause-ok
returns-in-Reply-clause-ok g c =
    rw c.in-Reply.reply-is (at_once c.now.result c.in-Ok.answer c.now.ensures c.in-Ok.ensures.step c.in-Reply.is (Adds-recorded _ _ _ _ (Adds-replied _ _ _ _ refl _ _ _ c.in-Ok.ensures.step c.in-Reply.is)))

pub returns-in-Reply-clause-idle : goal.returns-in-Reply-clause-idle
returns-in-Reply-clause-idle g c = λ idle. asked-leaves_idle _ _ _ _ _ _ refl c.in-Ok.ensures.step

pub returns-in-Ok : goal.returns-in-Ok
returns-in-Ok g c = record {
  ok = tt;
  idle = tt;
  err = stray-unanswered _ _ c.now.result _ c.in-Ok.answer _ _ _ c.now.ensures c.in-Ok.ensures.step (stray-board c.in-Ok.answer.out c.in-Joined.is);
  same = c.in-Ok.ensures.same;
}

pub returns-clause-err : goal.returns-clause-err
returns-clause-err g c = is_refused c.now.result c.now.ensures c.in-Err.ensures.step
