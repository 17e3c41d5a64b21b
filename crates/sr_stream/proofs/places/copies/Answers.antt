use Rattle.std.proofs.Common.{◌≡◌, take, ap, ◌∙◌}
use Rattle.std.proofs.lemmas.List.{take_all}
use Rattle.std.proofs.lemmas.Result.{IfOk-from_err}
use Rattle.sr_stream.specs.Groups.{shown_groups}
use Rattle.sr_stream.proofs.GroupsLemmas.{copies-turn}
use Rattle.sr_stream.proofs.places.copies.Goals as goal

pub returns-in_err-list : goal.returns-in_err-list
returns-in_err-list c = IfOk-from_err _ _ c.from_residual.ensures.0

pub loop-named-init : goal.loop-named-init
loop-named-init c = ap shown_groups c.in_ok-list.ensures.items

pub loop-named-preserved : goal.loop-named-preserved
loop-named-preserved c =
    let d = c.named-item.result in
    let x = c.in_ok-copy.field-0 in
    copies-turn c.args.groups.now c.loop-named.list.items c.push.new.self.items c.loop-named.named-index x d c.loop-named-test.true c.loop-named.invariant c.in_ok-push.ensures.items c.named-item.is c.in_ok-copy.ensures.name c.in_ok-copy.ensures.group

pub returns-in_err-copy : goal.returns-in_err-copy
returns-in_err-copy c = IfOk-from_err _ _ c.from_residual-in_err-copy.ensures.0

pub returns-in_err-push : goal.returns-in_err-push
returns-in_err-push c = IfOk-from_err _ _ c.from_residual-in_err-push.ensures.0

pub returns : goal.returns
returns c =
    let whole : take c.loop-named.named-index c.args.groups.now ≡ c.args.groups.now = take_all c.loop-named.named-index c.args.groups.now c.loop-named-test.false in
    c.loop-named.invariant ∙ ap shown_groups whole
