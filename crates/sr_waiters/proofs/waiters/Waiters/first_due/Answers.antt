use Rattle.std.proofs.Common.{◌∙◌, ap, sym}
use Rattle.sr_waiters.specs.Layout.{shown_reads}
use Rattle.sr_waiters.specs.Waiters.{WaitersState, due_at}
use Rattle.sr_waiters.proofs.ReadLemmas.{Stored, first_due_found, first_due_none, first_due_passed, shorter-next}
use Rattle.sr_waiters.proofs.waiters.Waiters.first_due.Goals as goal

pub loop-session-init : goal.loop-session-init
loop-session-init c =
    ap (λ (stored : Stored). due_at c.args.moment (shown_reads stored)) (c.into_iter-session-iterator.ensures.into_iter_gives ∙ c.iter-session-items.ensures)
    ∙ ap (λ (waiters : WaitersState). due_at c.args.moment waiters.list) c.self.view_is

pub loop-session-preserved : goal.loop-session-preserved
loop-session-preserved c =
    first_due_passed c.args.moment c.loop-session.session-iterator c.next.new.self c.in-Some.session.now c.in-Some.read.now c.args.self.now.list
    c.loop-session.invariant c.in-Some.ensures.steps (sym c.is_due.ensures ∙ c.if-is_due.false)

pub loop-session-smaller : goal.loop-session-smaller
loop-session-smaller c =
    shorter-next (c.in-Some.session.now, c.in-Some.read.now) c.loop-session.session-iterator c.next.new.self c.in-Some.ensures.steps

pub returns-then-is_due : goal.returns-then-is_due
returns-then-is_due c =
    first_due_found c.args.moment c.loop-session.session-iterator c.next.new.self c.in-Some.session.now c.in-Some.read.now c.args.self.now.list
    c.loop-session.invariant c.in-Some.ensures.steps (sym c.is_due.ensures ∙ c.if-is_due.true)

pub returns : goal.returns
returns c = first_due_none c.args.moment c.loop-session.session-iterator c.args.self.now.list c.loop-session.invariant c.in-None.ensures.steps.0
