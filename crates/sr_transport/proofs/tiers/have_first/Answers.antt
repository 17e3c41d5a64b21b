use Rattle.std.proofs.Common.{arith}
use Rattle.sr_transport.specs.Problem.{HasFirst}
use Rattle.sr_transport.proofs.LoopLemmas.{each, each_next, not_each}
use Rattle.sr_transport.proofs.tiers.have_first.Goals as goal

pub returns-then-not-has_first : goal.returns-then-not-has_first
returns-then-not-has_first c =
    not_each (HasFirst c.args.tiers.now) c.args.consumers c.loop-consumer.consumer c.has_first.result
    (omega arith) c.has_first.ensures
    c.if-not-has_first.true

pub loop-consumer-preserved : goal.loop-consumer-preserved
loop-consumer-preserved c =
    each_next (HasFirst c.args.tiers.now) c.loop-consumer.consumer c.loop-consumer.invariant
    (c.has_first.ensures.0 c.if-not-has_first.false)

pub returns : goal.returns
returns c =
    each (HasFirst c.args.tiers.now) c.loop-consumer.consumer c.args.consumers (omega arith) c.loop-consumer.invariant
