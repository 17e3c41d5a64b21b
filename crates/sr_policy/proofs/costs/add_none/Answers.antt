use Rattle.std.proofs.Common.{None, refl}
use Rattle.sr_policy.proofs.ProblemLemmas.{value_added}
use Rattle.sr_policy.proofs.costs.add_none.Goals as goal

pub loop-consumer-preserved : goal.loop-consumer-preserved
loop-consumer-preserved c =
    value_added (λ _. None) c.args.live.now c.loop-consumer._consumer-index c._consumer-item.result None
    c.args.costs.now.items _ _
    c.loop-consumer-test.true refl c.loop-consumer.invariant c.in_ok-push.ensures.items
