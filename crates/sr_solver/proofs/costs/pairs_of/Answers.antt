use Rattle.std.proofs.Common.{◌≡◌, ◌+◌, length, ap, ◌∙◌, arith}
use Rattle.std.proofs.lemmas.List.{length_push}
use Rattle.sr_solver.proofs.RowLemmas.{rows_more, sets_more, sets_all}
use Rattle.sr_solver.proofs.costs.pairs_of.Goals as goal

pub loop-entry-preserved : goal.loop-entry-preserved
loop-entry-preserved c = record {
  room = c.fill-count.ensures.room ∙ c.loop-entry.invariant.room;
  rows = rw (c.in_ok-push-2.ensures.items, c.in_ok-extend_from_slice.ensures.items) (
      rows_more c.args.problem.now c.loop-entry.entry c.len.result c.loop-entry.starts.items c.loop-entry.pairs.items _
      c.loop-entry.invariant.rows c.fill-count.ensures.row
      (omega (arith, c.len.ensures, c.extend_from_slice.new.self.ok.0, ap length c.in_ok-extend_from_slice.ensures.items)));
  sets = ap length c.in_ok-push-3.ensures.items
      ∙ (length_push c.loop-entry.sets.items c.set_of.result ∙ ap (λ n. n + 1) c.loop-entry.invariant.sets);
  each = rw c.in_ok-push-3.ensures.items (
      sets_more c.args.problem.now c.loop-entry.entry c.loop-entry.sets.items _ c.set_of.result
      c.loop-entry.invariant.sets c.loop-entry.invariant.each c.fill-count.ensures.row c.set_of.ensures);
}

pub returns : goal.returns
returns c =
    let all : c.loop-entry.entry ≡ c.args.problem.now.entries =
    omega (arith, c.loop-entry-test.false, c.loop-entry.auto.entry-end, c.entries-entries.ensures) in
    record {
      few = c.requires.consumers;
      rows = rw all at c.loop-entry.invariant.rows;
      sets = sets_all c.args.problem.now c.loop-entry.entry c.loop-entry.sets.items c.requires.limits all
          c.loop-entry.invariant.sets c.loop-entry.invariant.each;
    }
