use Rattle.sr_args.proofs.NameLemmas.{AreUnnamed-more, unnamed-end}
use Rattle.sr_args.proofs.name.option_named.Goals as goal

pub returns-clause-none : goal.returns-clause-none
returns-clause-none c = unnamed-end c.loop-option.option-index c.args.word.now c.loop-option-test.false c.loop-option.invariant

pub loop-option-preserved : goal.loop-option-preserved
loop-option-preserved c =
    AreUnnamed-more c.loop-option.option-index c.args.word.now c.loop-option-test.true c.loop-option.invariant (c.is_named.ensures.no c.if-is_named.false)
