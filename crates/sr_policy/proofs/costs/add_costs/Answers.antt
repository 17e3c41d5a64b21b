use Rattle.std.proofs.Common.{◌*◌, option_map}
use Rattle.sr_policy.proofs.ProblemLemmas.{value_added}
use Rattle.sr_policy.proofs.costs.add_costs.Goals as goal

pub loop-rate-preserved : goal.loop-rate-preserved
loop-rate-preserved c =
    value_added (option_map (λ n. n * c.args.weight)) c.args.rates.now c.loop-rate.rate-index _ _
    c.args.costs.now.items _ _
    c.loop-rate-test.true c.cost_of.ensures c.loop-rate.invariant c.in_ok-push.ensures.items
