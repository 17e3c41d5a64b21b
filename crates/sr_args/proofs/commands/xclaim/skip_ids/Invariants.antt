use Rattle.std.proofs.Common.{◌≤◌, length}
use Rattle.sr_args.specs.declared.name.OptionSet.TheVariants.{Xclaim}
use Rattle.sr_args.specs.steps.Claims.{IsSkipped}
use Rattle.sr_args.proofs.commands.xclaim.skip_ids.Given as goal

abbrev pub invariant-loop-word : goal.invariant-loop-word
invariant-loop-word l = record {
  skipped : IsSkipped Xclaim l.fn.words l.words;
  within : length l.words ≤ length l.fn.words;
}

abbrev pub decreases-loop-word : goal.decreases-loop-word
decreases-loop-word l = length l.words
