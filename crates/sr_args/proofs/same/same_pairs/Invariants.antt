use Rattle.std.proofs.Common.{◌≡◌, ◌↔◌, length}
use Rattle.sr_args.proofs.same.same_pairs.Given as goal

abbrev pub invariant-loop-field : goal.invariant-loop-field
invariant-loop-field l = (l.initial.left ≡ l.initial.right) ↔ (l.left ≡ l.right)

abbrev pub decreases-loop-field : goal.decreases-loop-field
decreases-loop-field l = length l.left
