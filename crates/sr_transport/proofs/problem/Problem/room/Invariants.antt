use Rattle.std.proofs.Common.{◌≡◌, ◌==◌, cond, take}
use Rattle.std.specs.List.{sum_by}
use Rattle.sr_transport.specs.declared.problem.Tier.{Tier}
use Rattle.sr_transport.proofs.problem.Problem.room.Given as goal

abbrev pub invariant-loop-tier : goal.invariant-loop-tier
invariant-loop-tier l =
    l.room ≡ sum_by (λ (tier : Tier). cond (tier.consumer == l.consumer) tier.room 0) (take l.tier-index l.self.tiers)
