use Rattle.std.proofs.Common.{◌∙◌, ap, arith}
use Rattle.std.specs.List.{flat_map}
use Rattle.std.proofs.lemmas.List.{take_all}
use Rattle.std.proofs.lemmas.Result.{IfOk-from_err}
use Rattle.sr_policy.specs.Problem.{costs_of}
use Rattle.sr_policy.proofs.ProblemLemmas.{row_added}
use Rattle.sr_policy.proofs.costs.costs_of.Goals as goal

pub loop-entry-init : goal.loop-entry-init
loop-entry-init c = c.new-costs.ensures.items

pub returns-in_err-add_row : goal.returns-in_err-add_row
returns-in_err-add_row c = IfOk-from_err _ _ c.from_residual.ensures.0

pub loop-entry-preserved : goal.loop-entry-preserved
loop-entry-preserved c =
    row_added (costs_of c.args.snapshot.now) c.stranded-entries.result.now c.loop-entry.entry-index
    c.entry-item.result _ _
    c.loop-entry-test.true c.entry-item.is c.loop-entry.invariant c.in_ok-add_row.ensures

pub returns : goal.returns
returns c =
    c.loop-entry.invariant
    ∙ ap (flat_map (costs_of c.args.snapshot.now))
    (take_all c.loop-entry.entry-index c.stranded-entries.result.now (omega arith))
    ∙ ap (flat_map (costs_of c.args.snapshot.now)) c.stranded-entries.ensures
