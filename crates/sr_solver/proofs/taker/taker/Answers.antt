use Rattle.std.proofs.Common.{ℕ, ◌<◌, Option, refl, sym, ap, ◌∙◌, arith}
use Rattle.std.proofs.lemmas.Bool.{false≢true}
use Rattle.std.specs.Option.{IsSome, is_some}
use Rattle.sr_transport.specs.{consumers}
use Rattle.sr_transport.specs.plain.Problem.{cost_at}
use Rattle.sr_transport.proofs.PlainLimitLemmas.{cost_at_small, cost_small}
use Rattle.sr_solver.proofs.TakerLemmas.{compared_next, compared_not, none_compared, free_takes, none_takes}
use Rattle.sr_solver.proofs.taker.taker.Goals as goal
use Rattle.sr_solver.proofs.taker.taker.Goals.{then-is_some, else-is_some}

pub costs-cost-items-requires : goal.costs-cost-items-requires
costs-cost-items-requires c = c.requires.entry

pub loop-consumer-init : goal.loop-consumer-init
loop-consumer-init c = none_compared c.args.problem.now.columns c.args.problem.now.steps.now c.args.prices.now c.args.loads.now c.args.entry _ refl

pub offset_bounds-cost-items-consumer : goal.offset_bounds-cost-items-consumer
offset_bounds-cost-items-consumer c = omega arith

pub bounds-cost-items-consumer : goal.bounds-cost-items-consumer
bounds-cost-items-consumer c = c.loop-consumer-test.true

pub offset_bounds-loads-consumer : goal.offset_bounds-loads-consumer
offset_bounds-loads-consumer c = omega arith

pub bounds-loads-consumer : goal.bounds-loads-consumer
bounds-loads-consumer c = omega arith

pub offset_bounds-prices-consumer : goal.offset_bounds-prices-consumer
offset_bounds-prices-consumer c = omega arith

pub bounds-prices-consumer : goal.bounds-prices-consumer
bounds-prices-consumer c = omega arith

pub compared-cheapest-requires-clause-cost : goal.compared-cheapest-requires-clause-cost
compared-cheapest-requires-clause-cost c =
    rw (c.costs-cost-items.ensures.costs c.loop-consumer.consumer (omega arith)) (
    cost_at_small c.args.problem.now.columns c.costs-cost-items.ensures.limits c.args.entry c.loop-consumer.consumer
    )

pub compared-cheapest-requires-clause-price : goal.compared-cheapest-requires-clause-price
compared-cheapest-requires-clause-price c = c.requires.low c.loop-consumer.consumer (omega arith)

pub returns-clause-some : goal.returns-clause-some
returns-clause-some c =
    free_takes c.args.problem.now.columns c.args.problem.now.steps.now c.args.prices.now c.args.loads.now c.args.entry c.loop-consumer.cheapest.sum
    c.loop-consumer.cheapest.free
    (λ x lt. c.loop-consumer.invariant.least x (omega arith)) c.loop-consumer.invariant.free

pub returns-clause-none : goal.returns-clause-none
returns-clause-none c =
    none_takes c.args.problem.now.columns c.args.problem.now.steps.now c.args.prices.now c.args.loads.now c.args.entry c.loop-consumer.consumer
    c.loop-consumer.cheapest.sum c.loop-consumer.cheapest.free
    (omega arith) c.loop-consumer.invariant.least
    (λ x lt allowed. omega (
      arith,
      cost_small c.args.problem.now.columns c.costs-cost-items.ensures.limits c.args.entry x,
      c.requires.low x allowed.0,
    ))
    c.loop-consumer.invariant.attained c.loop-consumer.invariant.none

pub loop-consumer-preserved : goal.loop-consumer-preserved
loop-consumer-preserved c =
    let p = c.args.problem.now.columns in
    let n = c.loop-consumer.consumer in
    let lt : n < consumers p = omega (arith, c.loop-consumer-test.true, c.costs-cost-items.ensures.each_consumer) in
    let cost = c.costs-cost-items.ensures.costs n lt in
    elim c.if-is_some.branch [
      | then-is_some w ↦
          rw w.cheapest-is (compared_next p c.args.problem.now.steps.now _ _ _ n _ _ _ _ _ lt
          (sym cost) refl w.is_vacant-is_vacant.ensures.0 w.is_vacant-is_vacant.ensures.1 c.loop-consumer.invariant w.compared-cheapest.ensures)
      | else-is_some w ↦
          let none = λ (some : IsSome (cost_at p c.args.entry n)). false≢true
          (sym w.if-is_some.false ∙ c.is_some.ensures ∙ ap (λ (o : Option ℕ). is_some o) cost ∙ some) in
          rw w.cheapest-is (compared_not p c.args.problem.now.steps.now _ _ _ n _ lt none c.loop-consumer.invariant)
    ]
