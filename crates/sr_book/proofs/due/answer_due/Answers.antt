use Rattle.std.proofs.Common.{◌∙◌, arith}
use Rattle.sr_book.proofs.DueLemmas.{left_of_all, left_of_next, left_of_none-letters, left_of_none-others, left_of_none-replies}
use Rattle.sr_book.proofs.due.answer_due.Goals as goal

pub loop-session-init : goal.loop-session-init
loop-session-init c =
    let a = c.args in
    (c.requires.room, left_of_all a.index a.moment a.sessions.now a.waiters.now.list a.sent.now.items c.requires.once)

pub loop-session-preserved : goal.loop-session-preserved
loop-session-preserved c =
    let was = c.loop-session.invariant in
    let takes = c.in-Some.ensures.some in (
      omega (arith, was.0, takes.fewer, c.push_reserved.ensures.len, c.push_reserved.ensures.capacity),
      left_of_next c.args.index c.args.moment c.in-Some.session _ _ _ _ _ _ _ _ _ _ _ c.no_array.ensures c.no_array-in-Some.ensures c.set_letter.ensures c.push_reserved.ensures.items was.1 takes,
    )

pub returns-clause-sessions : goal.returns-clause-sessions
returns-clause-sessions c =
    left_of_none-letters c.args.index c.args.moment _ _ _ c.loop-session.waiters.list _ _ c.loop-session.invariant.1 c.in_default.ensures.none

pub returns-clause-waiting : goal.returns-clause-waiting
returns-clause-waiting c =
    c.in_default.ensures.stay ∙ left_of_none-others c.args.index c.args.moment _ _ _ c.loop-session.waiters.list _ _ c.loop-session.invariant.1 c.in_default.ensures.none

pub returns-clause-sent : goal.returns-clause-sent
returns-clause-sent c =
    left_of_none-replies c.args.index c.args.moment _ _ _ c.loop-session.waiters.list _ _ c.loop-session.invariant.1 c.in_default.ensures.none
