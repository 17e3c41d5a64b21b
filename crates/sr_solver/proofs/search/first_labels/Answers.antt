use Rattle.std.proofs.Common.{◌≡◌, ℕ, ◌<◌, List, get_or, ◌∙◌, arith}
use Rattle.sr_transport.specs.{consumers}
use Rattle.sr_transport.specs.plain.Problem.{cost_at}
use Rattle.sr_solver.specs.Labels.{IsFirstLabel}
use Rattle.sr_solver.proofs.CutoffLemmas.{IsGapAt, level_read, gap_read, gap_small}
use Rattle.sr_solver.proofs.SearchLemmas.{cost_at_small, offered_more, first_small, cutoff_more}
use Rattle.sr_solver.proofs.OfferLemmas.{prices_low, price_small}
use Rattle.sr_solver.proofs.search.first_labels.Goals as goal

pub costs-cost-items-requires : goal.costs-cost-items-requires
costs-cost-items-requires c = c.requires.entry

pub loop-consumer-init : goal.loop-consumer-init
loop-consumer-init c = record { each = λ x lt. absurd (omega (arith, lt)); cutoff = λ x lt up. absurd (omega (arith, lt)) }

pub offset_bounds-cost-items-consumer : goal.offset_bounds-cost-items-consumer
offset_bounds-cost-items-consumer c = omega arith

pub bounds-cost-items-consumer : goal.bounds-cost-items-consumer
bounds-cost-items-consumer c = c.loop-consumer-test.true

pub offset_bounds-prices-consumer : goal.offset_bounds-prices-consumer
offset_bounds-prices-consumer c = omega arith

pub bounds-prices-consumer : goal.bounds-prices-consumer
bounds-prices-consumer c = rw c.as_slice-prices.ensures.value (omega arith)

pub first_label-label-requires-clause-price : goal.first_label-label-requires-clause-price
first_label-label-requires-clause-price c =
    prices_low c.args.problem.now.columns c.args.entry c.args.placement.now.assign.items c.args.placement.now.prices.items
    c.as_slice-prices.result.now
    c.requires.standing.placed c.requires.entry c.as_slice-prices.ensures.value c.loop-consumer.consumer (omega arith)

pub first_label-label-requires-clause-cost : goal.first_label-label-requires-clause-cost
first_label-label-requires-clause-cost c =
    rw (c.costs-cost-items.ensures.costs c.loop-consumer.consumer (omega arith)) (
    cost_at_small c.args.problem.now.columns c.requires.standing.placed.limits c.args.entry c.loop-consumer.consumer
    )

pub offset_bounds-labels-consumer : goal.offset_bounds-labels-consumer
offset_bounds-labels-consumer c = omega arith

pub bounds-labels-consumer : goal.bounds-labels-consumer
bounds-labels-consumer c = omega arith

pub gap-gap-requires-clause-consumer : goal.gap-gap-requires-clause-consumer
gap-gap-requires-clause-consumer c = omega arith

pub gap-gap-requires-clause-steps : goal.gap-gap-requires-clause-steps
gap-gap-requires-clause-steps c = c.requires.standing.are_steps.one_each

pub gap-gap-requires-clause-level : goal.gap-gap-requires-clause-level
gap-gap-requires-clause-level c =
    level_read c.args.problem.now.columns c.args.problem.now.steps.now c.args.placement.now.assign.items c.args.placement.now.prices.items c.args.placement.now.loads.items c.as_slice-loads.result.now c.as_slice-prices.result.now c.loop-consumer.consumer
    c.requires.standing.level c.requires.standing.loads c.as_slice-loads.ensures.value c.as_slice-prices.ensures.value
    (omega arith)

pub cut-cutoff-requires-clause-label : goal.cut-cutoff-requires-clause-label
cut-cutoff-requires-clause-label c =
    let p = c.args.problem.now.columns in
    let prices : List ℕ = c.args.placement.now.prices.items in
    let n : ℕ = c.loop-consumer.consumer in
    let placed = c.requires.standing.placed in
    let lt : n < consumers p = omega arith in
    let offered : IsFirstLabel (cost_at p c.args.entry n) (get_or prices n 0) c.args.entry c.first_label-label.result =
    rw (c.costs-cost-items.ensures.costs n lt) at
    (rw c.as_slice-prices.ensures.value at c.first_label-label.ensures) in
    λ up. omega (
      arith,
      first_small p c.args.entry n prices c.first_label-label.result placed.limits
          (price_small p c.args.entry c.args.placement.now.assign.items prices placed (omega arith) n lt) lt offered up,
    )

pub cut-cutoff-requires-clause-gap : goal.cut-cutoff-requires-clause-gap
cut-cutoff-requires-clause-gap c =
    let at : IsGapAt c.args.problem.now.columns c.args.problem.now.steps.now c.args.placement.now.assign.items c.args.placement.now.prices.items c.loop-consumer.consumer c.gap-gap.result =
    gap_read c.args.problem.now.columns c.args.problem.now.steps.now c.args.placement.now.assign.items c.args.placement.now.prices.items c.args.placement.now.loads.items c.as_slice-loads.result.now c.as_slice-prices.result.now c.loop-consumer.consumer
    c.gap-gap.result c.requires.standing.are_steps c.requires.standing.loads c.as_slice-loads.ensures.value
    c.as_slice-prices.ensures.value (omega arith) c.gap-gap.ensures.some c.gap-gap.ensures.none in
    gap_small c.args.problem.now.columns c.args.problem.now.steps.now c.args.placement.now.assign.items c.args.placement.now.prices.items c.loop-consumer.consumer c.gap-gap.result at

pub returns-clause-started : goal.returns-clause-started
returns-clause-started c = record {
  one_each = c.loop-consumer.auto.labels ∙ c.requires.labels_each;
  each = λ x lt. c.loop-consumer.invariant.each x (omega arith);
}

pub returns-clause-cutoff : goal.returns-clause-cutoff
returns-clause-cutoff c =
    let all : c.loop-consumer.consumer ≡ consumers c.args.problem.now.columns = omega arith in
    rw all at c.loop-consumer.invariant.cutoff

pub loop-consumer-preserved : goal.loop-consumer-preserved
loop-consumer-preserved c =
    let p = c.args.problem.now.columns in
    let prices : List ℕ = c.args.placement.now.prices.items in
    let n : ℕ = c.loop-consumer.consumer in
    let placed = c.requires.standing.placed in
    let lt : n < consumers p = omega arith in
    let offered : IsFirstLabel (cost_at p c.args.entry n) (get_or prices n 0) c.args.entry c.first_label-label.result =
    rw (c.costs-cost-items.ensures.costs n lt) at
    (rw c.as_slice-prices.ensures.value at c.first_label-label.ensures) in
    let at : IsGapAt c.args.problem.now.columns c.args.problem.now.steps.now c.args.placement.now.assign.items c.args.placement.now.prices.items c.loop-consumer.consumer c.gap-gap.result =
    gap_read c.args.problem.now.columns c.args.problem.now.steps.now c.args.placement.now.assign.items c.args.placement.now.prices.items c.args.placement.now.loads.items c.as_slice-loads.result.now c.as_slice-prices.result.now c.loop-consumer.consumer
    c.gap-gap.result c.requires.standing.are_steps c.requires.standing.loads c.as_slice-loads.ensures.value
    c.as_slice-prices.ensures.value (omega arith) c.gap-gap.ensures.some c.gap-gap.ensures.none in
    record {
      each = offered_more p c.args.entry n prices c.loop-consumer.labels c.first_label-label.result
          (omega arith) c.loop-consumer.invariant.each offered;
      cutoff = cutoff_more p c.args.problem.now.steps.now c.args.entry n c.args.placement.now.assign.items prices c.loop-consumer.labels c.first_label-label.result c.gap-gap.result
          c.loop-consumer.cutoff c.cut-cutoff.result placed.limits (omega arith) lt
          (price_small p c.args.entry c.args.placement.now.assign.items prices placed (omega arith) n lt) c.loop-consumer.invariant.each offered at
          c.cut-cutoff.ensures c.loop-consumer.invariant.cutoff;
    }
