use Rattle.std.proofs.Common.{arith}
use Rattle.sr_solver.proofs.MembersLemmas.{wide_more}
use Rattle.sr_solver.proofs.placement.row_width.Goals as goal

pub loop-consumer-preserved : goal.loop-consumer-preserved
loop-consumer-preserved c = record {
  enough =
      wide_more c.args.problem.now c.loop-consumer.consumer _ c.loop-consumer.most c.greater-most.result c.room.ensures
      c.loop-consumer.invariant.enough c.greater-most.ensures.kept
      (rw c.entries.ensures at c.greater-most.ensures.enough);
  few = omega arith;
}

pub returns : goal.returns
returns c = record {
  some = omega arith;
  enough = λ x n lt room few. omega (arith, c.loop-consumer.invariant.enough x n (omega (arith, lt)) room few);
  short = omega (arith, c.loop-consumer.invariant.few);
}
