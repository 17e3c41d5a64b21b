use Rattle.std.proofs.Common.{length}
use Rattle.sr_args.specs.steps.Options.{IsUnderway}
use Rattle.sr_args.proofs.options.read_given.Given as goal

abbrev pub invariant-loop-name : goal.invariant-loop-name
invariant-loop-name l = IsUnderway l.set l.fn.words l.words l.seen l.judged l.group

abbrev pub decreases-loop-name : goal.decreases-loop-name
decreases-loop-name l = length l.words
