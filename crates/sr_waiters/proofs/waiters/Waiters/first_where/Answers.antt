use Rattle.std.proofs.Common.{◌∙◌, ap, sym}
use Rattle.sr_waiters.specs.Layout.{shown_reads}
use Rattle.sr_waiters.specs.Waiters.{WaitersState, first_that}
use Rattle.sr_waiters.proofs.ReadLemmas.{Stored, first_that_found, first_that_none, first_that_passed, shorter-next}
use Rattle.sr_waiters.proofs.waiters.Waiters.first_where.Goals as goal

pub loop-session-init : goal.loop-session-init
loop-session-init g c = λ test computes.
    ap (λ (stored : Stored). first_that test (shown_reads stored)) (c.into_iter-session-iterator.ensures.into_iter_gives ∙ c.iter-session-items.ensures)
    ∙ ap (λ (waiters : WaitersState). first_that test waiters.list) c.self.view_is

pub loop-session-preserved : goal.loop-session-preserved
loop-session-preserved g c = λ test computes.
    first_that_passed test c.loop-session.session-iterator c.next.new.self c.in-Some.session.now c.in-Some.read.now c.args.self.now.list
    (c.loop-session.invariant test computes) c.in-Some.ensures.steps (sym (computes _ _ c.passes.ensures) ∙ c.if-passes.false)

pub loop-session-smaller : goal.loop-session-smaller
loop-session-smaller g c =
    shorter-next (c.in-Some.session.now, c.in-Some.read.now) c.loop-session.session-iterator c.next.new.self c.in-Some.ensures.steps

pub returns-then-passes : goal.returns-then-passes
returns-then-passes g c = λ test computes.
    first_that_found test c.loop-session.session-iterator c.next.new.self c.in-Some.session.now c.in-Some.read.now c.args.self.now.list
    (c.loop-session.invariant test computes) c.in-Some.ensures.steps (sym (computes _ _ c.passes.ensures) ∙ c.if-passes.true)

pub returns : goal.returns
returns g c = λ test computes.
    first_that_none test c.loop-session.session-iterator c.args.self.now.list (c.loop-session.invariant test computes) c.in-None.ensures.steps.0
