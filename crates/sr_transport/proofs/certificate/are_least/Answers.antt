use Rattle.std.proofs.Common.{ℕ, IsSome, sym, subst, arith}
use Rattle.sr_transport.specs.Assignment.{charge_at, tier_of}
use Rattle.sr_transport.specs.Certificate.{IsLeast}
use Rattle.sr_transport.proofs.LoopLemmas.{each_next}
use Rattle.sr_transport.proofs.TierLemmas.{tier_of-own}
use Rattle.sr_transport.proofs.ByTierLemmas.{tier_of-charged}
use Rattle.sr_transport.proofs.GivenLemmas.{given_none, given_tier, given_more}
use Rattle.sr_transport.proofs.certificate.are_least.Goals as goal

pub loop-entry-init : goal.loop-entry-init
loop-entry-init c = record {
  given = given_none c.args.problem.now c.args.assign.now c.sound.ensures.consumers;
  least = λ i lt. absurd (omega arith);
}

pub is_least-requires-clause-tier : goal.is_least-requires-clause-tier
is_least-requires-clause-tier c =
    let p = c.args.problem.now in
    let xs = c.args.assign.now in
    let entry : ℕ = c.loop-entry.entry in
    let placed = c.requires.assignment.placement in
    let tier =
    given_tier p xs c.loop-entry.given entry c.give.result c.tier_for-tier.result c.loop-entry.invariant.given
    (placed.allowed entry (omega arith)).0 c.give.ensures.had c.tier_for-tier.ensures in
    omega (arith, tier, (tier_of-own p xs entry c.sound.ensures.are_tiers placed (omega arith)).within)

pub is_least-requires-clause-allowed : goal.is_least-requires-clause-allowed
is_least-requires-clause-allowed c =
    let p = c.args.problem.now in
    let xs = c.args.assign.now in
    let entry : ℕ = c.loop-entry.entry in
    let placed = c.requires.assignment.placement in
    let tier =
    given_tier p xs c.loop-entry.given entry c.give.result c.tier_for-tier.result c.loop-entry.invariant.given
    (placed.allowed entry (omega arith)).0 c.give.ensures.had c.tier_for-tier.ensures in
    subst (λ t. IsSome (charge_at p entry t)) (sym tier)
    (tier_of-charged p xs entry c.sound.ensures.are_tiers placed (omega arith))

pub loop-entry-preserved : goal.loop-entry-preserved
loop-entry-preserved c =
    let p = c.args.problem.now in
    let xs = c.args.assign.now in
    let prices = c.args.prices.now in
    let entry : ℕ = c.loop-entry.entry in
    let taker = (c.requires.assignment.placement.allowed entry (omega arith)).0 in
    let is = c.loop-entry.invariant.given in
    let tier = given_tier p xs c.loop-entry.given entry c.give.result c.tier_for-tier.result is taker c.give.ensures.had
    c.tier_for-tier.ensures in
    let here = subst (IsLeast p prices entry) tier (c.is_least.ensures.0 c.if-not-is_least.false) in
    record {
      given = given_more p xs c.loop-entry.given c.give.new.given entry is (omega arith)
          (omega (arith, is.sized, c.sound.ensures.consumers)) c.give.ensures.more;
      least = each_next (λ i. IsLeast p prices i (tier_of p xs i)) entry c.loop-entry.invariant.least here;
    }
