use Rattle.sr_plan.proofs.MovesLemmas.{length-prices}
use Rattle.sr_plan.proofs.prices.Prices.len.Goals as goal

pub returns : goal.returns
returns c = rw (← c.self.view_is) (length-prices _ _)
