use Rattle.std.proofs.Common.{◌≡◌, ℕ, ◌-◌, ◌<◌, length, get_or}
use Rattle.sr_transport.specs.{tier_at}
use Rattle.sr_solver.proofs.tiered.by_tier.Given as goal

abbrev pub invariant-loop-tier : goal.invariant-loop-tier
invariant-loop-tier l = record {
  one_each : length l.by_tier.items ≡ l.tier-index;
  each : (t : ℕ) → t < l.tier-index
      → get_or l.by_tier.items t 0 ≡ get_or l.prices (tier_at l.tiers t).consumer 0 - (tier_at l.tiers t).fee;
}
