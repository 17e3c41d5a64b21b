use Rattle.std.proofs.Common.{◌≡◌, ℕ, ◌+◌, length, refl, arith}
use Rattle.sr_transport.specs.Limits.{greatest_charge}
use Rattle.sr_transport.specs.Assignment.{charge_of, tier_of}
use Rattle.sr_transport.proofs.SumLemmas.{sum_below_more, sum_below-le_most}
use Rattle.sr_transport.proofs.ByTierLemmas.{charge_small}
use Rattle.sr_transport.proofs.GivenLemmas.{given_none, given_more}
use Rattle.sr_transport.proofs.CallerLemmas.{total_within}
use Rattle.sr_solver.proofs.ByConsumerLemmas.{charge_read}
use Rattle.sr_solver.proofs.tiered.total.Goals as goal

pub loop-entry-init : goal.loop-entry-init
loop-entry-init c =
    record { given = given_none c.args.problem.now c.args.assign.now c.sound.ensures.consumers; sum = refl }

pub overflow_add-total-in-loop-entry : goal.overflow_add-total-in-loop-entry
overflow_add-total-in-loop-entry c =
    let p = c.args.problem.now in
    let xs = c.args.assign.now in
    let entry : ℕ = c.loop-entry.entry in
    let here : charge_of p entry (tier_of p xs entry) ≡ c.unwrap.result + c.fee_after-fee.result =
    charge_read p c.args.steps.now xs c.loop-entry.given entry c.give.result c.fee_after-fee.result c.cost.result
    c.unwrap.result c.sound.ensures.are_tiers c.requires.steps c.requires.assignment c.loop-entry.invariant.given
    (omega arith) c.give.ensures.had c.fee_after-fee.ensures c.cost.ensures c.unwrap.ensures in
    let so_far = sum_below-le_most (λ i. charge_of p i (tier_of p xs i)) greatest_charge entry
    (λ i lt. charge_small p i (tier_of p xs i) c.sound.ensures) in
    omega (
      arith,
      here,
      so_far,
      c.loop-entry.invariant.sum,
      charge_small p entry (tier_of p xs entry) c.sound.ensures,
      c.requires.assignment.every,
      c.sound.ensures.few_entries,
    )

pub loop-entry-preserved : goal.loop-entry-preserved
loop-entry-preserved c =
    let p = c.args.problem.now in
    let xs = c.args.assign.now in
    let entry : ℕ = c.loop-entry.entry in
    let is = c.loop-entry.invariant.given in
    let taker = (c.requires.assignment.placement.allowed entry (omega arith)).0 in
    let here : charge_of p entry (tier_of p xs entry) ≡ c.unwrap.result + c.fee_after-fee.result =
    charge_read p c.args.steps.now xs c.loop-entry.given entry c.give.result c.fee_after-fee.result c.cost.result
    c.unwrap.result c.sound.ensures.are_tiers c.requires.steps c.requires.assignment is
    (omega arith) c.give.ensures.had c.fee_after-fee.ensures c.cost.ensures c.unwrap.ensures in
    record {
      given = given_more p xs c.loop-entry.given c.give.new.given entry is (omega arith)
          (omega (arith, is.sized, c.sound.ensures.consumers, taker)) c.give.ensures.more;
      sum = sum_below_more (λ i. charge_of p i (tier_of p xs i)) entry c.loop-entry.total
          (c.unwrap.result + c.fee_after-fee.result) c.loop-entry.invariant.sum here;
    }

pub returns-clause-small : goal.returns-clause-small
returns-clause-small c =
    let p = c.args.problem.now in
    let xs = c.args.assign.now in
    let at_end : c.loop-entry.entry ≡ length xs = omega arith in
    omega (
      arith,
      rw at_end at c.loop-entry.invariant.sum,
      total_within p xs c.sound.ensures (omega (arith, c.requires.assignment.every, c.sound.ensures.few_entries)),
    )
