use Rattle.sr_transport.specs.Solved.{IsBest}
use Rattle.sr_transport.proofs.CallerLemmas.{prices_show_cheapest, shortage_excludes}
use Rattle.sr_solver.specs.ByConsumer.{AreByTier}
use Rattle.sr_solver.proofs.ByConsumerLemmas.{over_best, over_small, over_short}
use Rattle.sr_solver.proofs.tiered.solved.Goals as goal

pub returns-in_ok-prices-in-Placed-clause-solution : goal.returns-in_ok-prices-in-Placed-clause-solution
returns-in_ok-prices-in-Placed-clause-solution c =
    let p = c.args.problem.now in
    let by : AreByTier p.tiers c.in-Placed.prices.items c.in_ok-prices-in-Placed.prices.items =
    rw c.tiers.ensures at (rw c.deref-in-Placed.ensures.value at c.in_ok-prices-in-Placed.ensures) in
    over_best p c.requires.answer.rooms c.args.steps.now c.in-Placed.assign.items c.in-Placed.prices.items
    c.in_ok-prices-in-Placed.prices.items c.total-total.result c.sound.ensures c.requires.answer.are c.requires.steps
    (rw c.in-Placed.is at c.requires.answer.is) by (rw c.deref.ensures.value at c.total-total.ensures.total)
    c.total-total.ensures.small

pub returns-in_ok-prices-in-Placed-clause-optimal : goal.returns-in_ok-prices-in-Placed-clause-optimal
returns-in_ok-prices-in-Placed-clause-optimal c =
    let p = c.args.problem.now in
    let best : IsBest p c.in-Placed.assign.items c.in_ok-prices-in-Placed.prices.items c.total-total.result =
    returns-in_ok-prices-in-Placed-clause-solution c in (
      best.assignment,
      prices_show_cheapest p c.in-Placed.assign.items c.in_ok-prices-in-Placed.prices.items c.sound.ensures.are_tiers
          best.assignment best.shown,
    )

pub returns-in_ok-prices-in-Placed-clause-prices : goal.returns-in_ok-prices-in-Placed-clause-prices
returns-in_ok-prices-in-Placed-clause-prices c =
    let p = c.args.problem.now in
    let by : AreByTier p.tiers c.in-Placed.prices.items c.in_ok-prices-in-Placed.prices.items =
    rw c.tiers.ensures at (rw c.deref-in-Placed.ensures.value at c.in_ok-prices-in-Placed.ensures) in
    over_small p c.requires.answer.rooms c.args.steps.now c.in-Placed.assign.items c.in-Placed.prices.items
    c.in_ok-prices-in-Placed.prices.items c.sound.ensures.are_tiers c.requires.answer.are
    (rw c.in-Placed.is at c.requires.answer.is) by

pub returns-in-Short-clause-solution : goal.returns-in-Short-clause-solution
returns-in-Short-clause-solution c =
    over_short c.args.problem.now c.requires.answer.rooms c.in-Short.set.items c.sound.ensures c.requires.answer.are
    (rw c.in-Short.is at c.requires.answer.is)

pub returns-in-Short-clause-optimal : goal.returns-in-Short-clause-optimal
returns-in-Short-clause-optimal c =
    shortage_excludes c.args.problem.now c.in-Short.set.items (returns-in-Short-clause-solution c)
