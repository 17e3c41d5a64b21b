use Rattle.std.proofs.Common.{◌≡◌, [], ◌∷◌, ◌++◌, ap, ◌∙◌, arith, rules}
use Rattle.std.proofs.lemmas.Result.{IfOk-from_err}
use Rattle.sr_solver.specs.Shortage.{stranded_below}
use Rattle.sr_solver.proofs.shortage.stranded.Goals as goal

pub loop-other-init : goal.loop-other-init
loop-other-init c = c.new-set.ensures.items

pub offset_bounds-assign-other : goal.offset_bounds-assign-other
offset_bounds-assign-other c = omega arith

pub bounds-assign-other : goal.bounds-assign-other
bounds-assign-other c = omega arith

pub bounds-labels-assign : goal.bounds-labels-assign
bounds-labels-assign c = c.requires.placed c.loop-other.other (omega arith)

pub returns-in_err-push : goal.returns-in_err-push
returns-in_err-push c = IfOk-from_err _ _ c.from_residual.ensures.0

pub loop-other-preserved : goal.loop-other-preserved
loop-other-preserved c = search rules

pub returns-in_err-push-2 : goal.returns-in_err-push-2
returns-in_err-push-2 c = IfOk-from_err _ _ c.from_residual-in_err-push-2.ensures.0

pub returns : goal.returns
returns c =
    let at_end : c.loop-other.other ≡ c.args.entry = omega arith in
    c.in_ok-push-2.ensures.items
    ∙ ap (λ set. set ++ c.args.entry ∷ []) (c.loop-other.invariant
    ∙ ap (stranded_below c.args.labels.now c.args.assign.now) at_end)
