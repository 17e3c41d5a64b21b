use Rattle.std.proofs.Common.{refl, ◌∙◌, arith}
use Rattle.std.proofs.Math.ListN.{length-set}
use Rattle.sr_solver.proofs.RowLemmas.{row_next}
use Rattle.sr_solver.proofs.costs.list.Goals as goal

pub loop-consumer-preserved : goal.loop-consumer-preserved
loop-consumer-preserved c = record {
  room = length-set _ _ _ ∙ c.loop-consumer.invariant.room;
  row = row_next c.args.problem.now c.args.entry c.loop-consumer.consumer c.loop-consumer.count _ _ _ _
      c.loop-consumer.row c.loop-consumer.invariant.row
      (omega (
        arith,
        c.loop-consumer.invariant.row.few,
        c.loop-consumer-test.true,
        c.costs-cost-items.ensures.each_consumer,
        c.requires.room,
        c.loop-consumer.invariant.room,
      ))
      refl
      (c.costs-cost-items.ensures.costs c.loop-consumer.consumer
      (omega (arith, c.loop-consumer-test.true, c.costs-cost-items.ensures.each_consumer)))
      c.is_some.ensures c.from-count.ensures;
}
