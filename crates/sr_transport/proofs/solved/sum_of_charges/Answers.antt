use Rattle.std.proofs.Common.{◌≡◌, ℕ, length, Option, Some, IsSome, ap, sym, ◌∙◌, refl, subst, arith}
use Rattle.std.specs.Prelude.{unwrap_or}
use Rattle.sr_transport.specs.Limits.{greatest_charge}
use Rattle.sr_transport.specs.Assignment.{charge_at, charge_of, tier_of}
use Rattle.sr_transport.proofs.SumLemmas.{sum_below_more, sum_below-le_most}
use Rattle.sr_transport.proofs.TierLemmas.{tier_of-own}
use Rattle.sr_transport.proofs.ByTierLemmas.{charge_small, tier_of-charged}
use Rattle.sr_transport.proofs.GivenLemmas.{given_none, given_tier, given_more}
use Rattle.sr_transport.proofs.CallerLemmas.{total_within}
use Rattle.sr_transport.proofs.solved.sum_of_charges.Goals as goal

-- what an entry is charged, as it was read
charged : (charge read : Option ℕ) (found : ℕ) → read ≡ charge → read ≡ Some found → unwrap_or charge 0 ≡ found
charged charge read found is some = ap (λ (o : Option ℕ). unwrap_or o 0) (sym is ∙ some)

pub loop-entry-init : goal.loop-entry-init
loop-entry-init c =
    record { given = given_none c.args.problem.now c.args.assign.now c.sound.ensures.consumers; sum = refl }

pub charge-requires-clause-tier : goal.charge-requires-clause-tier
charge-requires-clause-tier c =
    let p = c.args.problem.now in
    let xs = c.args.assign.now in
    let entry : ℕ = c.loop-entry.entry in
    let placed = c.requires.placement in
    let tier =
    given_tier p xs c.loop-entry.given entry c.give.result c.tier_for-tier.result c.loop-entry.invariant.given
    (placed.allowed entry (omega arith)).0 c.give.ensures.had c.tier_for-tier.ensures in
    omega (arith, tier, (tier_of-own p xs entry c.sound.ensures.are_tiers placed (omega arith)).within)

pub unwrap-total-requires : goal.unwrap-total-requires
unwrap-total-requires c =
    let p = c.args.problem.now in
    let xs = c.args.assign.now in
    let entry : ℕ = c.loop-entry.entry in
    let placed = c.requires.placement in
    let tier =
    given_tier p xs c.loop-entry.given entry c.give.result c.tier_for-tier.result c.loop-entry.invariant.given
    (placed.allowed entry (omega arith)).0 c.give.ensures.had c.tier_for-tier.ensures in
    subst (λ (o : Option ℕ). IsSome o) (sym (c.charge.ensures ∙ ap (charge_at p entry) tier))
    (tier_of-charged p xs entry c.sound.ensures.are_tiers placed (omega arith))

pub overflow_add-total : goal.overflow_add-total
overflow_add-total c =
    let p = c.args.problem.now in
    let xs = c.args.assign.now in
    let entry : ℕ = c.loop-entry.entry in
    let here = charged (charge_at p entry c.tier_for-tier.result) c.charge.result c.unwrap-total.result c.charge.ensures
    c.unwrap-total.ensures in
    let so_far = sum_below-le_most (λ i. charge_of p i (tier_of p xs i)) greatest_charge entry
    (λ i lt. charge_small p i (tier_of p xs i) c.sound.ensures) in
    omega (
      arith,
      here,
      so_far,
      c.loop-entry.invariant.sum,
      charge_small p entry c.tier_for-tier.result c.sound.ensures,
      c.requires.every,
      c.sound.ensures.few_entries,
    )

pub loop-entry-preserved : goal.loop-entry-preserved
loop-entry-preserved c =
    let p = c.args.problem.now in
    let xs = c.args.assign.now in
    let entry : ℕ = c.loop-entry.entry in
    let taker = (c.requires.placement.allowed entry (omega arith)).0 in
    let is = c.loop-entry.invariant.given in
    let tier = given_tier p xs c.loop-entry.given entry c.give.result c.tier_for-tier.result is taker c.give.ensures.had
    c.tier_for-tier.ensures in
    let here =
    charged (charge_at p entry c.tier_for-tier.result) c.charge.result c.unwrap-total.result c.charge.ensures
    c.unwrap-total.ensures in
    record {
      given = given_more p xs c.loop-entry.given c.give.new.given entry is (omega arith)
          (omega (arith, is.sized, c.sound.ensures.consumers)) c.give.ensures.more;
      sum = sum_below_more (λ i. charge_of p i (tier_of p xs i)) entry c.loop-entry.total c.unwrap-total.result
          c.loop-entry.invariant.sum
          (ap (charge_of p entry) (sym tier) ∙ here);
    }

pub returns-clause-small : goal.returns-clause-small
returns-clause-small c =
    let p = c.args.problem.now in
    let xs = c.args.assign.now in
    let at_end : c.loop-entry.entry ≡ length xs = omega arith in
    omega (
      arith,
      rw at_end at c.loop-entry.invariant.sum,
      total_within p xs c.sound.ensures (omega (arith, c.requires.every, c.sound.ensures.few_entries)),
    )
