use Rattle.sr_plan.proofs.MovesLemmas.{move-read, moves-left}
use Rattle.sr_plan.proofs.moves.Moves.next.Goals as goal

pub invariant_of-self : goal.invariant_of-self
invariant_of-self c =
    moves-left _ _ _ _ _ _ _ c.in_ok-entry.ensures.cases.0 c.in_ok-number.ensures.cases.0 c.self.invariant

pub returns-clause-some : goal.returns-clause-some
returns-clause-some c =
    rw (← c.self.view_is)
    (move-read _ _ _ _ _ _ _ _ c.in_ok-entry.ensures.cases.0 c.in_ok-number.ensures.cases.0 c.self.invariant)
