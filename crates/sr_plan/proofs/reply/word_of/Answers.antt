use Rattle.std.proofs.Common.{sym, ap}
use Rattle.sr_check.specs.{plan_word}
use Rattle.sr_plan.proofs.reply.word_of.Goals as goal

pub returns-then-applied : goal.returns-then-applied
returns-then-applied c = ap plan_word (sym c.if-applied.true)

pub returns-else-applied : goal.returns-else-applied
returns-else-applied c = ap plan_word (sym c.if-applied.false)
