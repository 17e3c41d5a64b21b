use Rattle.std.proofs.Common.{length}
use Rattle.sr_args.specs.Form.{AreNoneOf}
use Rattle.sr_args.specs.commands.Xclaim.{unsupported}
use Rattle.sr_args.proofs.commands.xclaim.are_supported.Given as goal

abbrev pub invariant-loop-word : goal.invariant-loop-word
invariant-loop-word l = record {
  back : AreNoneOf unsupported l.words → AreNoneOf unsupported l.fn.words;
  forth : AreNoneOf unsupported l.fn.words → AreNoneOf unsupported l.words;
}

abbrev pub decreases-loop-word : goal.decreases-loop-word
decreases-loop-word l = length l.words
