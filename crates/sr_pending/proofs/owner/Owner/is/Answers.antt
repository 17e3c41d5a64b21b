use Rattle.std.proofs.Common.{sym, ◌∙◌}
use Rattle.sr_pending.proofs.owner.Owner.is.Goals as goal

pub returns : goal.returns
returns c = ((λ yes. sym c.name.ensures ∙ c.eq.ensures.exact.0 yes), (λ same. c.eq.ensures.exact.1 (c.name.ensures ∙ same)))
