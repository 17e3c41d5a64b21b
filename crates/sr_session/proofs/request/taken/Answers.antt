use Rattle.std.proofs.Common.{rules}
use Rattle.sr_session.proofs.TakenLemmas.{taken_as-call}
use Rattle.sr_session.proofs.request.taken.Goals as goal

pub returns-in-Call : goal.returns-in-Call
returns-in-Call c = taken_as-call _ _ _ _ c.in-Call.is c.if-not-blocking.true c.without_block.ensures

pub returns-in_default : goal.returns-in_default
returns-in_default c = search rules
