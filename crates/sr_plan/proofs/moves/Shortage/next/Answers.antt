use Rattle.sr_plan.proofs.MovesLemmas.{id-read, ids-left}
use Rattle.sr_plan.proofs.moves.Shortage.next.Goals as goal

pub invariant_of-self : goal.invariant_of-self
invariant_of-self c = ids-left _ _ _ _ c.in_ok-number.ensures.cases.0 c.self.invariant

pub returns-clause-some : goal.returns-clause-some
returns-clause-some c = rw (← c.self.view_is) (id-read _ _ _ _ _ c.in_ok-number.ensures.cases.0 c.self.invariant)
