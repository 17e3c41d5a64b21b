use Rattle.sr_plan.proofs.VerdictLemmas.{shown_is_worth}
use Rattle.sr_plan.proofs.verdict.Verdict.optimal.Goals as goal

pub returns : goal.returns
returns c = rw (← c.self.view_is) (shown_is_worth c.self.inside.judged.value.snapshot _ c.self.invariant.shown)
