use Rattle.std.proofs.Common.{ℕ, refl, arith}
use Rattle.sr_transport.specs.{consumers}
use Rattle.sr_transport.proofs.PlainLimitLemmas.{cost_at_small, cost_small}
use Rattle.sr_solver.specs.Pairs.{pair_at}
use Rattle.sr_solver.proofs.TakerLemmas.{compared_next, none_compared, free_takes, none_takes}
use Rattle.sr_solver.proofs.GapLemmas.{gap_before, gap_after, looked_next, cheapest_skips}
use Rattle.sr_solver.proofs.taker.taker_in_row.Goals as goal

pub loop-pair-init : goal.loop-pair-init
loop-pair-init c =
    none_compared c.args.problem.now.columns c.args.problem.now.steps.now c.args.prices.now c.args.loads.now
    c.args.row.number _ refl

pub compared-cheapest-requires-clause-cost : goal.compared-cheapest-requires-clause-cost
compared-cheapest-requires-clause-cost c =
    let p = c.args.problem.now.columns in
    let j : ℕ = c.loop-pair.pair-index in
    rw (c.requires.row.cost j c.loop-pair-test.true) at
    (cost_at_small p c.consumers.ensures.limits c.args.row.number (pair_at c.args.row.pairs.now j).consumer)

pub loop-pair-preserved : goal.loop-pair-preserved
loop-pair-preserved c =
    let p = c.args.problem.now.columns in
    let pairs = c.args.row.pairs.now in
    let j : ℕ = c.loop-pair.pair-index in
    let skipped = cheapest_skips p c.args.problem.now.steps.now _ _ _ _ _ _
    (gap_before p c.args.row.number j pairs c.requires.row c.loop-pair-test.true) c.loop-pair.invariant in
    rw (looked_next pairs j) (compared_next p c.args.problem.now.steps.now _ _ _ _ _ _ _ _ _
    (c.requires.row.consumer j c.loop-pair-test.true)
    (c.requires.row.cost j c.loop-pair-test.true) refl c.is_vacant-is_vacant.ensures.0 c.is_vacant-is_vacant.ensures.1
    skipped c.compared-cheapest.ensures)

pub returns-clause-some : goal.returns-clause-some
returns-clause-some c =
    let p = c.args.problem.now.columns in
    let all = cheapest_skips p c.args.problem.now.steps.now _ _ _ _ _ _
    (gap_after p c.args.row.number c.loop-pair.pair-index c.args.row.pairs.now c.requires.row (omega arith)) c.loop-pair.invariant in
    free_takes p c.args.problem.now.steps.now c.args.prices.now c.args.loads.now c.args.row.number
    c.loop-pair.cheapest.sum c.loop-pair.cheapest.free all.least all.free

pub returns-clause-none : goal.returns-clause-none
returns-clause-none c =
    let p = c.args.problem.now.columns in
    let all = cheapest_skips p c.args.problem.now.steps.now _ _ _ _ _ _
    (gap_after p c.args.row.number c.loop-pair.pair-index c.args.row.pairs.now c.requires.row (omega arith)) c.loop-pair.invariant in
    none_takes p c.args.problem.now.steps.now c.args.prices.now c.args.loads.now c.args.row.number (consumers p)
    c.loop-pair.cheapest.sum c.loop-pair.cheapest.free refl all.least
    (λ x lt allowed. omega (
      arith,
      cost_small p c.consumers.ensures.limits c.args.row.number x,
      c.requires.low x allowed.0,
    ))
    all.attained all.none
