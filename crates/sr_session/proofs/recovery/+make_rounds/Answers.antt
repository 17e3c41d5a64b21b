use Rattle.std.proofs.Common.{◌==◌, refl, sym, ◌∙◌}
use Rattle.std.proofs.lemmas.Result.{IfOk-weaker}
use Rattle.sr_session.proofs.GrowthLemmas.{Adds-same}
use Rattle.sr_session.proofs.RoundLemmas.{StepsAt-refused, asked-leaves_idle, fewer_left, hidden-breaks, lacks-breaks, made-round, none-breaks, refused-breaks, reply-ok, reply-recorded, stale-err, stale-left, stale-ok, stale-recorded, stale-unrecorded, stray-conclude, stray-verdict}
use Rattle.sr_session.proofs.recovery.+make_rounds.Goals as goal

pub returns-then-rounds-eq0 : goal.returns-then-rounds-eq0
returns-then-rounds-eq0 g t c = record {
  ok = tt;
  recorded = tt;
  idle = tt;
  err = none-breaks _ _ _ _ _ _ _ c.if-rounds-eq0.true c.requires.some;
  unrecorded = Adds-same _ _ _ refl;
  same = refl;
}

pub returns-in_default : goal.returns-in_default
returns-in_default g t c = record {
  ok = tt;
  recorded = tt;
  idle = tt;
  err = lacks-breaks _ _ _ _ _ _ _ c.if-rounds-eq0.false c.pause.ensures.shows;
  unrecorded = Adds-same _ _ _ c.pause.ensures.shows;
  same = c.pause.ensures.same;
}

pub returns-in-Reply : goal.returns-in-Reply
returns-in-Reply g t c =
    let a = c.args in
    let M = g.C.Clock.may_tell a.clock.now in
    let old = g.D.Desk.shows a.desk.now in
    let new = g.D.Desk.shows c.step.new.self in
    let round = made-round M a.session a.apply (a.rounds == 1) a.snapshot old _ c.now.result c.in-Ok.verdict c.in-Ok-step.answer _ new c.pause.ensures.shows c.now.ensures c.in-Ok.ensures c.in-Ok-step.ensures.step c.in-Reply.is in
    record {
      ok = reply-ok M a.session a.apply a.snapshot old a.rounds _ c.in-Reply.reply new c.if-rounds-eq0.false c.in-Reply.reply-is round;
      recorded = reply-recorded M a.session a.apply a.snapshot old a.rounds _ c.in-Reply.reply new c.in-Reply.reply-is round;
      idle = λ idle. asked-leaves_idle _ _ _ _ _ _ refl c.in-Ok-step.ensures.step;
      err = tt;
      unrecorded = tt;
      same = c.in-Ok-step.ensures.same ∙ c.pause.ensures.same;
    }

pub make_rounds-requires : goal.make_rounds-requires
make_rounds-requires g t c κs within =
    let some = c.if-rounds-eq0.false in
    (fewer_left _ _ some c.decreases, (within.0, (within.1.0, (within.1.1, stale-left _ _ _ _ _ _ _ _ _ some c.in-Ok-step.ensures.step c.in-Stale.is))))

pub returns-in-Stale : goal.returns-in-Stale
returns-in-Stale g t c =
    let a = c.args in
    let M = g.C.Clock.may_tell a.clock.now in
    let old = g.D.Desk.shows a.desk.now in
    let middle = g.D.Desk.shows c.step.new.self in
    let new = g.D.Desk.shows c.make_rounds.new.desk in
    let round = made-round M a.session a.apply (a.rounds == 1) a.snapshot old _ c.now.result c.in-Ok.verdict c.in-Ok-step.answer _ middle c.pause.ensures.shows c.now.ensures c.in-Ok.ensures c.in-Ok-step.ensures.step c.in-Stale.is in
    let later = c.make_rounds.ensures in
    record {
      ok = stale-ok M a.session a.apply a.snapshot old a.rounds c.in-Stale.fresh middle new c.make_rounds.result round _ c.if-rounds-eq0.false c.in-Stale.fresh-is later.ok;
      recorded = stale-recorded M a.session a.apply a.snapshot old a.rounds c.in-Stale.fresh middle new c.make_rounds.result round later.recorded;
      idle = IfOk-weaker c.make_rounds.result _ _ (λ reply goes idle. goes (asked-leaves_idle _ _ _ _ _ _ refl c.in-Ok-step.ensures.step)) later.idle;
      err = stale-err M a.session a.apply a.snapshot old a.rounds c.in-Stale.fresh middle new c.make_rounds.result round _ c.if-rounds-eq0.false c.in-Stale.fresh-is later.err;
      unrecorded = stale-unrecorded M a.session a.apply a.snapshot old a.rounds c.in-Stale.fresh middle new c.make_rounds.result round later.unrecorded;
      same = later.same ∙ c.in-Ok-step.ensures.same ∙ c.pause.ensures.same;
    }

pub returns-in-Ok-step : goal.returns-in-Ok-step
returns-in-Ok-step g t c =
    let both = stray-conclude _ _ _ _ c.in-Ok.verdict _ _ c.in-Ok-step.answer (rw c.pause.ensures.shows at c.in-Ok-step.ensures.step) (stray-verdict c.in-Ok-step.answer.out c.in-Joined.is) in
    record {
      ok = tt;
      recorded = tt;
      idle = tt;
      err = hidden-breaks _ _ _ _ _ _ _ _ c.if-rounds-eq0.false both;
      unrecorded = Adds-same _ _ _ (both.1 ∙ sym both.0);
      same = c.in-Ok-step.ensures.same ∙ c.pause.ensures.same;
    }

pub returns : goal.returns
returns g t c =
    let step = rw c.pause.ensures.shows at c.in-Err.ensures.step in
    record {
      ok = tt;
      recorded = tt;
      idle = tt;
      err = refused-breaks _ _ _ _ _ _ _ _ c.if-rounds-eq0.false (record { told = c.now.result; judged = c.in-Ok.verdict; by_clock = c.now.ensures; of_snapshot = c.in-Ok.ensures; step = step });
      unrecorded = Adds-same _ _ _ (StepsAt-refused _ _ _ _ _ step);
      same = c.in-Err.ensures.same ∙ c.pause.ensures.same;
    }
