use Rattle.std.proofs.Common.{[], ◌∷◌, ◌++◌, ap, ◌∙◌, subst, ℕ, ◌≤◌}
use Rattle.std.proofs.lemmas.Result.{IfOk-from_err}
use Rattle.sr_args.specs.declared.call.Call.{Call}
use Rattle.sr_waiters.specs.Waiters.{WaitersState}
use Rattle.sr_waiters.proofs.CopyLemmas.{copy_absent, copy_begins, copy_ends, copy_goes_on, copy_room}
use Rattle.sr_waiters.proofs.ReadLemmas.{shorter-next}
use Rattle.sr_waiters.proofs.waiters.Waiters.copy.Goals as goal

pub loop-session-init : goal.loop-session-init
loop-session-init c =
    copy_begins c.reserve.new.self c.self.inside.reads.entries c.into_iter-session-iterator.result c.args.self.now.list c.self.invariant.0
    (c.into_iter-session-iterator.ensures.into_iter_gives ∙ c.iter-session-items.ensures)
    (ap (λ (w : WaitersState). w.list) c.self.view_is)
    (c.in_ok-reserve.ensures.list ∙ c.new-copy.ensures)
    (subst (λ (n : ℕ). n ≤ c.reserve.new.self.room) c.len.ensures c.in_ok-reserve.ensures.room)

pub join-requires : goal.join-requires
join-requires c = record {
  room = copy_room c.loop-session.copy c.loop-session.session-iterator c.next.new.self c.in-Some.session.now c.in-Some.read.now c.args.self.now.list c.loop-session.invariant c.in-Some.ensures.steps;
  absent = copy_absent c.loop-session.copy c.loop-session.session-iterator c.next.new.self c.in-Some.session.now c.in-Some.read.now c.args.self.now.list c.loop-session.invariant c.in-Some.ensures.steps;
}

pub loop-session-preserved : goal.loop-session-preserved
loop-session-preserved c =
    let copied = λ (call : Call). c.loop-session.copy.list ++ record { session = c.in-Some.session.now; call = call; deadline = c.in-Some.read.now.deadline } ∷ [] in
    copy_goes_on c.loop-session.copy c.loop-session.session-iterator c.next.new.self c.in-Some.session.now c.in-Some.read.now c.args.self.now.list c.join.new.self
    c.loop-session.invariant c.in-Some.ensures.steps (c.join.ensures.list ∙ ap copied c.in_ok-call.ensures) c.join.ensures.room

pub loop-session-smaller : goal.loop-session-smaller
loop-session-smaller c =
    shorter-next (c.in-Some.session.now, c.in-Some.read.now) c.loop-session.session-iterator c.next.new.self c.in-Some.ensures.steps

pub returns-in_err-reserve : goal.returns-in_err-reserve
returns-in_err-reserve c = IfOk-from_err _ _ c.from_residual.ensures.0

pub returns-in_err-call : goal.returns-in_err-call
returns-in_err-call c = IfOk-from_err _ _ c.from_residual-in_err-call.ensures.0

pub returns : goal.returns
returns c = copy_ends c.loop-session.copy c.loop-session.session-iterator c.args.self.now.list c.loop-session.invariant c.in-None.ensures.steps.0
