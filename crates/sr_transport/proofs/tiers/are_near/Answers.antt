use Rattle.std.proofs.Common.{length, arith}
use Rattle.sr_transport.specs.Problem.{IsOneOfTwo}
use Rattle.sr_transport.proofs.LoopLemmas.{each, each_next}
use Rattle.sr_transport.proofs.tiers.are_near.Goals as goal

pub loop-number-preserved : goal.loop-number-preserved
loop-number-preserved c =
    each_next (IsOneOfTwo c.args.consumers c.args.tiers.now) c.loop-number.number c.loop-number.invariant
    (c.is_one_of_two.ensures.0 c.if-not-is_one_of_two.false)

pub returns : goal.returns
returns c =
    each (IsOneOfTwo c.args.consumers c.args.tiers.now) c.loop-number.number (length c.args.tiers.now)
    (omega arith) c.loop-number.invariant
