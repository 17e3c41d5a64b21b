use Rattle.std.proofs.Common.{◌≡◌, ◌++◌, map, take}
use Rattle.sr_args.proofs.streams.first_words.Given as goal

abbrev pub invariant-loop-left : goal.invariant-loop-left
invariant-loop-left l = map (λ word. word.now) l.list.items ++ take l.left l.words ≡ take l.many l.fn.words

abbrev pub decreases-loop-left : goal.decreases-loop-left
decreases-loop-left l = l.left
