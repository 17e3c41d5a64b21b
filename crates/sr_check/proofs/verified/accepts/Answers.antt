use Rattle.sr_check.proofs.ShortageLemmas.{no_answer}
use Rattle.sr_check.proofs.verified.accepts.Goals as goal

pub returns-in-Some : goal.returns-in-Some
returns-in-Some c = c.plan_worth.ensures c.args.reply.now c.in-Some.ensures.found

pub returns-in-Some-after_word : goal.returns-in-Some-after_word
returns-in-Some-after_word c =
    c.plan_worth-in-Some-after_word.ensures c.args.reply.now c.in-Some-after_word.ensures.found

pub returns-in-Some-after_word-2 : goal.returns-in-Some-after_word-2
returns-in-Some-after_word-2 c = c.shortage_worth.ensures c.args.reply.now c.in-Some-after_word-2.ensures.found

pub returns : goal.returns
returns c = λ answer applied shows e.
    no_answer c.args.snapshot.now c.args.reply.now c.in_default.ensures.none c.in_default-after_word.ensures.none
    c.in_default-after_word-2.ensures.none answer applied e
