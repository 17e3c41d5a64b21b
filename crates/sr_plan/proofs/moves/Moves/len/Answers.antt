use Rattle.sr_plan.proofs.MovesLemmas.{length-moves}
use Rattle.sr_plan.proofs.moves.Moves.len.Goals as goal

pub returns : goal.returns
returns c = rw (← c.self.view_is) (length-moves _ _ _ c.self.invariant)
