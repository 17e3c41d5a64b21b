use Rattle.std.proofs.Common.{◌∙◌, ap, arith}
use Rattle.std.proofs.lemmas.List.{take_all}
use Rattle.sr_policy.specs.Problem.{tiers_from}
use Rattle.sr_policy.proofs.ProblemLemmas.{tiers_added}
use Rattle.sr_policy.proofs.costs.tiers_of.Goals as goal

pub loop-number-preserved : goal.loop-number-preserved
loop-number-preserved c =
    tiers_added c.args.live.now c.loop-number.number c.index-live-number.result _ _
    c.loop-number-test.true c.index-live-number.is c.loop-number.invariant c.in_ok-add_tiers.ensures

pub returns : goal.returns
returns c = c.loop-number.invariant ∙ ap (tiers_from 0) (take_all c.loop-number.number c.args.live.now (omega arith))
