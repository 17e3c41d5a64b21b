use Rattle.sr_hub.specs.Lines.{state_of}
use Rattle.sr_hub.proofs.ServeLemmas.{keeps-none}
use Rattle.sr_hub.proofs.keeper.Keeper.forget.Goals as goal

pub returns-in_default-clause-keeps : goal.returns-in_default-clause-keeps
returns-in_default-clause-keeps g c = λ may_tell. keeps-none may_tell (state_of c.args.hub.now)
