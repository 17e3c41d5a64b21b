use Rattle.sr_live.proofs.SpareLawLemmas.{holds_near}
use Rattle.sr_live.proofs.bounds.holds_while_near.Goals as goal

pub returns : goal.returns
returns c = holds_near
