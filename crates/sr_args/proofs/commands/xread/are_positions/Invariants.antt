use Rattle.std.proofs.Common.{length, map}
use Rattle.sr_args.specs.FormWord.{position, spelled, HasIds}
use Rattle.sr_args.proofs.commands.xread.are_positions.Given as goal

abbrev pub invariant-loop-word : goal.invariant-loop-word
invariant-loop-word l = record {
  back : HasIds (map (spelled position) l.words) → HasIds (map (spelled position) l.fn.words);
  forth : HasIds (map (spelled position) l.fn.words) → HasIds (map (spelled position) l.words);
}

abbrev pub decreases-loop-word : goal.decreases-loop-word
decreases-loop-word l = length l.words
