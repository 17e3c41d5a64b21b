use Rattle.std.proofs.Common.{refl}
use Rattle.sr_solver.proofs.ShownLemmas.{shown_pairs}
use Rattle.sr_solver.proofs.costs.Costs.row.Goals as goal

pub returns : goal.returns
returns c = (
  refl,
  shown_pairs _ _ _ _ _ c.in-Some.kept.now c.deref.result.now c.self.invariant c.self.view_is
      (rw c.in-Some.is at c.self.invariant.kept) c.args.entry c.entry_at-place.result c.index-first.result.now
      c.index-end.result.now c.requires c.entry_at-place.ensures c.index-first.ensures c.index-end.ensures
      c.deref.ensures.value,
)
