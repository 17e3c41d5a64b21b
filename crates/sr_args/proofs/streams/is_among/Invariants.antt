use Rattle.std.proofs.Common.{take}
use Rattle.sr_args.specs.Different.{IsAmong}
use Rattle.sr_args.proofs.streams.is_among.Given as goal

abbrev pub invariant-loop-left : goal.invariant-loop-left
invariant-loop-left l = record {
  back : IsAmong l.word (take l.left l.words) → IsAmong l.word (take l.many l.fn.words);
  forth : IsAmong l.word (take l.many l.fn.words) → IsAmong l.word (take l.left l.words);
}

abbrev pub decreases-loop-left : goal.decreases-loop-left
decreases-loop-left l = l.left
