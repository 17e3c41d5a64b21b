use Rattle.std.proofs.Common.{map, ap, ◌∙◌}
use Rattle.std.proofs.lemmas.List.{take_all}
use Rattle.std.proofs.lemmas.Result.{IfOk-from_err}
use Rattle.sr_resp.specs.{array_of}
use Rattle.sr_group.specs.{KeptGroup}
use Rattle.sr_stream.specs.{ByName}
use Rattle.sr_space.specs.commands.Xinfo.{group_answer}
use Rattle.sr_space.proofs.LoopLemmas.{lines-next}
use Rattle.sr_space.proofs.commands.xinfo.groups_reply.Goals as goal

pub returns : goal.returns
returns c =
    c.loop-named.invariant ∙ ap (λ (groups : ByName KeptGroup). array_of (map (λ named. group_answer named.0 named.1.shown) groups)) (take_all c.loop-named.named-index c.args.groups.now c.loop-named-test.false)

pub loop-named-preserved : goal.loop-named-preserved
loop-named-preserved c =
    lines-next (λ named. group_answer named.0 named.1.shown) c.args.groups.now c.loop-named.named-index c.named-item.result _ _ _ c.loop-named-test.true c.named-item.is c.in_ok-push.ensures.ok c.in_ok-group_reply.ensures c.loop-named.invariant

pub returns-in_err-group_reply : goal.returns-in_err-group_reply
returns-in_err-group_reply c = IfOk-from_err _ _ c.from_residual.ensures.0

pub returns-in_err-push : goal.returns-in_err-push
returns-in_err-push c = IfOk-from_err _ _ c.from_residual-in_err-push.ensures.0
