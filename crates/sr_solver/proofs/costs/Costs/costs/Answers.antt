use Rattle.std.proofs.Common.{arith}
use Rattle.sr_solver.proofs.ShownLemmas.{shown_limits, shown_costs, shown_end}
use Rattle.sr_solver.proofs.costs.Costs.costs.Goals as goal

pub slice_bounds-result-end : goal.slice_bounds-result-end
slice_bounds-result-end c =
    shown_end _ _ _ _ _ c.self.invariant c.self.view_is c.args.entry c.entry_at.result c.requires c.entry_at.ensures

pub returns-clause-costs : goal.returns-clause-costs
returns-clause-costs c =
    shown_costs _ _ _ c.self.view_is c.args.entry c.entry_at.result _ c.requires c.entry_at.ensures (omega arith)

pub returns-clause-limits : goal.returns-clause-limits
returns-clause-limits c = shown_limits _ _ _ _ _ c.self.invariant c.self.view_is
