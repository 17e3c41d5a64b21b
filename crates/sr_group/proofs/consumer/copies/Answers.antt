use Rattle.std.proofs.Common.{◌∙◌}
use Rattle.std.proofs.lemmas.List.{take_all}
use Rattle.std.proofs.lemmas.Result.{IfOk-from_err}
use Rattle.sr_group.proofs.LoopLemmas.{copied-next}
use Rattle.sr_group.proofs.consumer.copies.Goals as goal

pub returns-in_err-list : goal.returns-in_err-list
returns-in_err-list c = IfOk-from_err _ _ c.from_residual.ensures.0

pub loop-consumer-init : goal.loop-consumer-init
loop-consumer-init c = c.in_ok-list.ensures.items

pub loop-consumer-preserved : goal.loop-consumer-preserved
loop-consumer-preserved c =
    copied-next c.args.consumers.now c.loop-consumer.consumer-index c.consumer-item.result c.in_ok-copy.field-0 c.loop-consumer.list.items c.push.new.self.items c.loop-consumer-test.true c.consumer-item.is c.in_ok-copy.ensures c.in_ok-push.ensures.items c.loop-consumer.invariant

pub returns-in_err-copy : goal.returns-in_err-copy
returns-in_err-copy c = IfOk-from_err _ _ c.from_residual-in_err-copy.ensures.0

pub returns-in_err-push : goal.returns-in_err-push
returns-in_err-push c = IfOk-from_err _ _ c.from_residual-in_err-push.ensures.0

pub returns : goal.returns
returns c = c.loop-consumer.invariant ∙ take_all c.loop-consumer.consumer-index c.args.consumers.now c.loop-consumer-test.false
