use Rattle.std.proofs.Common.{◌≡◌, ◌++◌, length}
use Rattle.std.specs.List.{flat_map}
use Rattle.sr_space.proofs.ReplyLemmas.{pair_parts}
use Rattle.sr_space.proofs.reply.write_pairs.Given as goal

abbrev pub invariant-loop-field : goal.invariant-loop-field
invariant-loop-field l = l.draft ++ flat_map pair_parts l.pairs ≡ l.initial.draft ++ flat_map pair_parts l.initial.pairs

abbrev pub decreases-loop-field : goal.decreases-loop-field
decreases-loop-field l = length l.pairs
