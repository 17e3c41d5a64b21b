use Rattle.std.proofs.Common.{arith}
use Rattle.std.proofs.lemmas.List.Sorted.{IsPermutation-trans}
use Rattle.sr_solver.specs.Order.{numbers_below, IsOrder}
use Rattle.sr_solver.proofs.OrderLemmas.{order_below, order_length}
use Rattle.sr_solver.proofs.sample.placing_order.Goals as goal

pub by_price-requires-clause-below : goal.by_price-requires-clause-below
by_price-requires-clause-below c =
    order_below c.whole.result.entries c.in_ok-order.order.items c.in_ok-order.ensures

pub prices_of-requires-clause-part : goal.prices_of-requires-clause-part
prices_of-requires-clause-part c =
    let n = c.args.source.now.entries in
    let is : IsOrder n c.deref.result.now = rw (c.deref.ensures.value, ← c.whole.ensures.value) c.in_ok-order.ensures in
    record {
      entries = c.in_ok-sample.ensures.below n (order_below n c.deref.result.now is);
      few = omega (arith, c.in_ok-sample.ensures.few, order_length n c.deref.result.now is);
    }

pub returns : goal.returns
returns c =
    rw (← c.whole.ensures.value) (
    IsPermutation-trans (numbers_below c.whole.result.entries) c.in_ok-order.order.items c.by_price.new.order.items
    c.in_ok-order.ensures c.by_price.ensures)
