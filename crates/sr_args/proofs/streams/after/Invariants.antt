use Rattle.std.proofs.Common.{◌≡◌, drop}
use Rattle.sr_args.proofs.streams.after.Given as goal

abbrev pub invariant-loop-left : goal.invariant-loop-left
invariant-loop-left l = drop l.left l.words ≡ drop l.many l.fn.words

abbrev pub decreases-loop-left : goal.decreases-loop-left
decreases-loop-left l = l.left
