use Rattle.std.proofs.Common.{rules}
use Rattle.sr_waiters.proofs.ReadLemmas.{has_session_shown}
use Rattle.sr_waiters.proofs.waiters.Waiters.has.Goals as goal

pub returns : goal.returns
returns c = search (rules, has_session_shown)
