use Rattle.std.proofs.Common.{[], map, ◌∙◌, ap, arith}
use Rattle.std.proofs.lemmas.List.{take_all}
use Rattle.std.proofs.lemmas.Result.{IfOk-from_err}
use Rattle.sr_policy.proofs.ProblemLemmas.{value_added}
use Rattle.sr_policy.proofs.numbers.names_of.Goals as goal

pub returns-in_err-names : goal.returns-in_err-names
returns-in_err-names c = IfOk-from_err _ _ c.from_residual.ensures.0

pub loop-name-init : goal.loop-name-init
loop-name-init c = c.in_ok-names.ensures.items

pub returns-in_err-copy : goal.returns-in_err-copy
returns-in_err-copy c = IfOk-from_err _ _ c.from_residual-in_err-copy.ensures.0

pub returns-in_err-push : goal.returns-in_err-push
returns-in_err-push c = IfOk-from_err _ _ c.from_residual-in_err-push.ensures.0

pub loop-name-preserved : goal.loop-name-preserved
loop-name-preserved c =
    value_added (λ pair. pair.0) c.args.pairs.now c.loop-name.name-index c.loop-name-item.result _ [] _ _
    c.loop-name-test.true
    (c.in_ok-copy.ensures ∙ ap (λ pair. pair.0) c.loop-name-item.is) c.loop-name.invariant c.in_ok-push.ensures.items

pub returns : goal.returns
returns c =
    c.loop-name.invariant ∙ ap (map (λ pair. pair.0)) (take_all c.loop-name.name-index c.args.pairs.now (omega arith))
