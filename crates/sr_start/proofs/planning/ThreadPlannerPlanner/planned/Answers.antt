use Rattle.std.proofs.Common.{rules}
use Rattle.std.proofs.lemmas.Fn.{filter_same}
use Rattle.sr_start.proofs.planning.ThreadPlannerPlanner.planned.Goals as goal

pub returns-clause-some : goal.returns-clause-some
returns-clause-some g c = filter_same _ _ _ (λ x b f' k. search rules) _ _ c.retain.ensures.filtered
