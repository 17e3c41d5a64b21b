use Rattle.sr_session.proofs.ResponseLemmas.{answered-told}
use Rattle.sr_session.proofs.laws.replies_are_recorded.Goals as goal

pub returns : goal.returns
returns c = answered-told
