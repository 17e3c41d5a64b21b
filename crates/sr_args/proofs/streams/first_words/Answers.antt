use Rattle.sr_args.proofs.DifferentLemmas.{words-more}
use Rattle.sr_args.proofs.streams.first_words.Goals as goal

pub loop-left-preserved : goal.loop-left-preserved
loop-left-preserved c =
    rw c.in_ok-push.ensures.items (words-more (λ word. word.now) c.args.many c.loop-left.left c.args.words c.loop-left.words c.next.new.self c.loop-left.list.items c.in-Some.word c.loop-left-test.true c.in-Some.ensures.some c.loop-left.invariant)
