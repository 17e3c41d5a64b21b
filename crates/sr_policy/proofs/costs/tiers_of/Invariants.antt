use Rattle.std.proofs.Common.{◌≡◌, take}
use Rattle.sr_policy.specs.Problem.{tiers_from}
use Rattle.sr_policy.proofs.costs.tiers_of.Given as goal

abbrev pub invariant-loop-number : goal.invariant-loop-number
invariant-loop-number l = l.tiers.items ≡ tiers_from 0 (take l.number l.live)
