use Rattle.std.proofs.Common.{◌≡◌, length}
use Rattle.sr_policy.specs.Rules.{value_at}
use Rattle.sr_policy.proofs.policy.first_value.Given as goal

abbrev pub invariant-loop-name : goal.invariant-loop-name
invariant-loop-name l = value_at l.field l.pairs ≡ value_at l.field l.initial.pairs

abbrev pub decreases-loop-name : goal.decreases-loop-name
decreases-loop-name l = length l.pairs
