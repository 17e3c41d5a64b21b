use Rattle.std.proofs.Common.{Err, sym, ap}
use Rattle.sr_session.proofs.run.feed.Goals as goal

pub returns-in-Err-Protocol-clause-ok : goal.returns-in-Err-Protocol-clause-ok
returns-in-Err-Protocol-clause-ok c = sym (c.in-Err-Protocol.ensures.protocol (ap Err c.in-Err-Protocol.field-0-is)).0
