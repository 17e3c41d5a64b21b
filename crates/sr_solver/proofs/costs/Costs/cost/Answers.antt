use Rattle.sr_solver.proofs.ShownLemmas.{shown_cost, shown_place}
use Rattle.sr_solver.proofs.costs.Costs.cost.Goals as goal

pub bounds-self-inside-entry_at : goal.bounds-self-inside-entry_at
bounds-self-inside-entry_at c =
    shown_place _ _ _ _ _ c.self.invariant c.self.view_is c.args.entry c.entry_at.result c.args.consumer c.requires.entry
    c.requires.consumer c.entry_at.ensures

pub returns : goal.returns
returns c =
    shown_cost _ _ _ c.self.view_is c.args.entry c.entry_at.result c.args.consumer c.requires.entry c.requires.consumer
    c.entry_at.ensures
