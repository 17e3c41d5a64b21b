use Rattle.std.proofs.Common.{sym}
use Rattle.sr_session.proofs.DeskLemmas.{status-none, status-other}
use Rattle.sr_hub.proofs.StrayLemmas.{no-letter}
use Rattle.sr_hub.proofs.answering.has_letter.Goals as goal

pub returns-in-Closed : goal.returns-in-Closed
returns-in-Closed c =
    sym (no-letter c.args.session c.args.book.now.server (status-none c.args.session c.args.book.now c.status.result c.legal.ensures c.status.ensures (status-other c.status.result c.in-Closed.is)))
