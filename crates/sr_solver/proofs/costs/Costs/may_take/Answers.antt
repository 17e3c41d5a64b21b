use Rattle.sr_solver.proofs.ShownLemmas.{shown_out}
use Rattle.sr_solver.proofs.costs.Costs.may_take.Goals as goal

pub returns : goal.returns
returns c =
    shown_out _ _ _ _ _ c.in-Some.kept.now c.index.result.now c.has.result c.self.invariant c.self.view_is
    (rw c.in-Some.is at c.self.invariant.kept) c.args.entry c.entry_at-entry.result c.args.consumer c.requires.entry
    c.entry_at-entry.ensures c.index.ensures c.has.ensures.1
