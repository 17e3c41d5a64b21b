use Rattle.sr_solver.proofs.ShownLemmas.{shown_limits}
use Rattle.sr_solver.proofs.costs.Costs.consumers.Goals as goal

pub returns-clause-limits : goal.returns-clause-limits
returns-clause-limits c = shown_limits _ _ _ _ _ c.self.invariant c.self.view_is
