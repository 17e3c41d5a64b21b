use Rattle.std.proofs.Common.{ℕ, List, ◌++◌, map, ap, ◌∙◌}
use Rattle.std.proofs.lemmas.Result.{IfOk-from_err}
use Rattle.sr_ids.specs.declared.id.Id.{Id}
use Rattle.sr_group.specs.declared.shown.Act.{Act}
use Rattle.sr_group.specs.steps.Showing.{delivery_act, delivery_of}
use Rattle.sr_group.proofs.LoopLemmas.{mapped-end, mapped-next, shorter-next}
use Rattle.sr_group.proofs.deliver.acts_of.Goals as goal

pub returns-in_err-owner : goal.returns-in_err-owner
returns-in_err-owner c = IfOk-from_err _ _ c.from_residual.ensures.0

pub returns-in_err-acts : goal.returns-in_err-acts
returns-in_err-acts c = IfOk-from_err _ _ c.from_residual-in_err-acts.ensures.0

pub loop-entry-init : goal.loop-entry-init
loop-entry-init c =
    ap (λ (l : List Act). l ++ map (delivery_of c.args.reader.now c.args.moment c.args.noack) c.args.unread) c.in_ok-acts.ensures.items

pub loop-entry-preserved : goal.loop-entry-preserved
loop-entry-preserved c =
    let reader = c.args.reader.now in
    let act =
    c.in_ok-act_of.ensures
    ∙ ap (λ (owner : List ℕ). delivery_act owner c.args.moment c.args.noack c.id.result) c.in_ok-owner.ensures
    ∙ ap (λ (id : Id). delivery_act reader c.args.moment c.args.noack id) c.id.ensures in
    mapped-next (delivery_of reader c.args.moment c.args.noack) c.in-Some.entry c.in_ok-act_of.field-0 c.loop-entry.rest c.next.new.self c.args.unread c.loop-entry.acts.items c.push.new.self.items c.in-Some.ensures.some act c.in_ok-push.ensures.items c.loop-entry.invariant

pub loop-entry-smaller : goal.loop-entry-smaller
loop-entry-smaller c = shorter-next c.in-Some.entry c.loop-entry.rest c.next.new.self c.in-Some.ensures.some

pub returns-in_err-act_of : goal.returns-in_err-act_of
returns-in_err-act_of c = IfOk-from_err _ _ c.from_residual-in_err-act_of.ensures.0

pub returns-in_err-push : goal.returns-in_err-push
returns-in_err-push c = IfOk-from_err _ _ c.from_residual-in_err-push.ensures.0

pub returns : goal.returns
returns c =
    mapped-end (delivery_of c.args.reader.now c.args.moment c.args.noack) c.loop-entry.rest c.args.unread c.loop-entry.acts.items c.in_default.ensures.none c.loop-entry.invariant
