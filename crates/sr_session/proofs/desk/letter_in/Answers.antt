use Rattle.sr_session.proofs.DeskLemmas.{status-none, status-other}
use Rattle.sr_session.proofs.desk.letter_in.Goals as goal

pub returns-in-Closed : goal.returns-in-Closed
returns-in-Closed c = status-none _ _ c.status.result c.legal.ensures c.status.ensures (status-other c.status.result c.in-Closed.is)
