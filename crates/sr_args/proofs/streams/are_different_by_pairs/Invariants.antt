use Rattle.std.proofs.Common.{take}
use Rattle.sr_args.specs.Different.{AreDifferent}
use Rattle.sr_args.proofs.streams.are_different_by_pairs.Given as goal

abbrev pub invariant-loop-left : goal.invariant-loop-left
invariant-loop-left l = record {
  back : AreDifferent (take l.left l.words) → AreDifferent (take l.many l.fn.words);
  forth : AreDifferent (take l.many l.fn.words) → AreDifferent (take l.left l.words);
}

abbrev pub decreases-loop-left : goal.decreases-loop-left
decreases-loop-left l = l.left
