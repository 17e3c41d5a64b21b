use Rattle.std.proofs.Common.{length, map}
use Rattle.sr_args.specs.FormWord.{read_id, spelled, HasIds}
use Rattle.sr_args.proofs.commands.xreadgroup.are_asked.Given as goal

abbrev pub invariant-loop-word : goal.invariant-loop-word
invariant-loop-word l = record {
  back : HasIds (map (spelled read_id) l.words) → HasIds (map (spelled read_id) l.fn.words);
  forth : HasIds (map (spelled read_id) l.fn.words) → HasIds (map (spelled read_id) l.words);
}

abbrev pub decreases-loop-word : goal.decreases-loop-word
decreases-loop-word l = length l.words
