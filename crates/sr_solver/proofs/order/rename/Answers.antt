use Rattle.std.proofs.Common.{arith, length, get_or}
use Rattle.std.proofs.Math.ListN.{length-set}
use Rattle.sr_solver.proofs.OrderLemmas.{order_length, order_at, renamed_more}
use Rattle.sr_solver.proofs.order.rename.Goals as goal

pub bounds-order-place : goal.bounds-order-place
bounds-order-place c = omega (arith, order_length (length c.args.assign.now) c.args.order.now c.requires.order)

pub offset_bounds-renamed-order : goal.offset_bounds-renamed-order
offset_bounds-renamed-order c =
    omega (
      arith,
      c.requires.few,
      order_at (length c.args.assign.now) c.args.order.now c.requires.order c.loop-place.place (omega arith),
    )

pub bounds-renamed-order : goal.bounds-renamed-order
bounds-renamed-order c =
    omega (
      arith,
      c.loop-place.invariant.every,
      order_at (length c.args.assign.now) c.args.order.now c.requires.order c.loop-place.place (omega arith),
    )

pub loop-place-preserved : goal.loop-place-preserved
loop-place-preserved c = record {
  every = omega (
    arith,
    c.loop-place.invariant.every,
    length-set c.loop-place.renamed (get_or c.args.order.now c.loop-place.place 0)
        (get_or c.args.assign.now c.loop-place.place 0),
  );
  renamed =
      renamed_more (length c.args.assign.now) c.args.order.now c.args.assign.now c.loop-place.renamed c.loop-place.place
      c.requires.order c.loop-place.invariant.every (omega arith) c.loop-place.invariant.renamed;
}
