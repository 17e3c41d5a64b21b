use Rattle.std.proofs.Common.{◌≤◌, ◌++◌, List, length, map}
use Rattle.sr_args.specs.declared.reads.ReadAsked.{ReadAsked}
use Rattle.sr_args.specs.FormWord.{Word, read_id, spelled, HasIds}
use Rattle.sr_args.specs.steps.Streams.{AreStreams}
use Rattle.sr_args.proofs.commands.xreadgroup.copy_streams.Given as goal

abbrev pub invariant-loop-word : goal.invariant-loop-word
invariant-loop-word l = record {
  left : HasIds (map (spelled read_id) l.words);
  enough : length l.words ≤ length l.keys;
  whole : (more : List (Word × ReadAsked)) → AreStreams read_id l.keys l.words more → AreStreams read_id l.fn.keys l.fn.words (l.list.items ++ more);
}

abbrev pub decreases-loop-word : goal.decreases-loop-word
decreases-loop-word l = length l.words
