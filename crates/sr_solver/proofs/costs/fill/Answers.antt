use Rattle.std.proofs.Common.{refl, sym, ◌∙◌, arith}
use Rattle.std.proofs.Math.ListN.{length-set}
use Rattle.sr_solver.proofs.RowLemmas.{row_priced, row_all}
use Rattle.sr_solver.proofs.costs.fill.Goals as goal

pub loop-place-preserved : goal.loop-place-preserved
loop-place-preserved c = record {
  room = length-set _ _ _ ∙ c.loop-place.invariant.room;
  row = row_priced c.args.problem.now c.args.entry _ c.list-count.result c.loop-place.place _ c.loop-place.row
      c.loop-place.invariant.row
      (omega (
        arith,
        c.loop-place-test.true,
        c.loop-place.invariant.row.few,
        c.requires.room,
        c.loop-place.invariant.room,
      ))
      refl (sym c.cost.ensures ∙ c.unwrap.ensures);
}

pub returns-clause-row : goal.returns-clause-row
returns-clause-row c =
    row_all c.args.problem.now c.args.entry _ c.list-count.result c.loop-place.place c.loop-place.row
    c.loop-place.invariant.row refl (omega (arith, c.loop-place-test.false, c.loop-place.auto.place-end))
    (omega (arith, c.loop-place.invariant.row.few, c.requires.room, c.loop-place.invariant.room))
