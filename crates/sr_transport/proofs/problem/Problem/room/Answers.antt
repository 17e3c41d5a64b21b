use Rattle.std.proofs.Common.{◌≡◌, ℕ, ◌==◌, ◌≤◌, Bool, true, false, cond, length, ap, arith}
use Rattle.std.proofs.lemmas.List.Sums.{sum_by_more_le_part, sum_by-le}
use Rattle.sr_transport.specs.declared.problem.Tier.{Tier}
use Rattle.sr_transport.specs.Limits.{greatest_room}
use Rattle.sr_transport.specs.Problem.{tier_at}
use Rattle.sr_transport.proofs.TierLemmas.{no_tier}
use Rattle.sr_transport.proofs.problem.Problem.room.Goals as goal

counted-le : (counted : Bool) (room : ℕ) → cond counted room 0 ≤ room
counted-le true room = omega arith
counted-le false room = omega arith

pub overflow_add-room : goal.overflow_add-room
overflow_add-room c =
    let tiers = c.args.self.now.tiers in
    let at : ℕ = c.loop-tier.tier-index in
    let same = c.tiers-tier-items.ensures in
    let taken = sum_by_more_le_part (λ (tier : Tier). cond (tier.consumer == c.args.consumer) tier.room 0)
    (λ (tier : Tier). tier.room) tiers at no_tier
    (omega (arith, ap length same)) (λ (tier : Tier). counted-le (tier.consumer == c.args.consumer) tier.room) in
    let whole = sum_by-le (λ (tier : Tier). tier.room) greatest_room tiers
    (λ t d lt. (c.sound.ensures.small_tiers t d lt).room) in
    let here : (tier_at c.tiers-tier-items.result.now at).room ≡ (tier_at tiers at).room =
    ap (λ ts. (tier_at ts at).room) same in
    omega (arith, taken, whole, here, c.loop-tier.invariant, c.sound.ensures.few_tiers)
