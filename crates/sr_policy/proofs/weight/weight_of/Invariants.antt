use Rattle.std.proofs.Common.{◌≡◌, ◌+◌, ◌≤◌, min, length}
use Rattle.sr_policy.specs.Bounds.{most_weight}
use Rattle.sr_policy.specs.Rules.{size_of}
use Rattle.sr_policy.proofs.weight.weight_of.Given as goal

abbrev pub invariant-loop-field : goal.invariant-loop-field
invariant-loop-field l =
    (l.size ≤ most_weight) × (min most_weight (l.size + size_of l.fields) ≡ min most_weight (size_of l.initial.fields))

abbrev pub decreases-loop-field : goal.decreases-loop-field
decreases-loop-field l = length l.fields
