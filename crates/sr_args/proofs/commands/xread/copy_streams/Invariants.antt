use Rattle.std.proofs.Common.{◌≤◌, ◌++◌, List, length, map}
use Rattle.sr_args.specs.declared.call.Position.{Position}
use Rattle.sr_args.specs.FormWord.{Word, position, spelled, HasIds}
use Rattle.sr_args.specs.steps.Streams.{AreStreams}
use Rattle.sr_args.proofs.commands.xread.copy_streams.Given as goal

abbrev pub invariant-loop-word : goal.invariant-loop-word
invariant-loop-word l = record {
  left : HasIds (map (spelled position) l.words);
  enough : length l.words ≤ length l.keys;
  whole : (more : List (Word × Position)) → AreStreams position l.keys l.words more → AreStreams position l.fn.keys l.fn.words (l.list.items ++ more);
}

abbrev pub decreases-loop-word : goal.decreases-loop-word
decreases-loop-word l = length l.words
