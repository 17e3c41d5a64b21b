use Rattle.std.proofs.Common.{rules}
use Rattle.sr_waiters.proofs.ReadLemmas.{call_of_shown}
use Rattle.sr_waiters.proofs.waiters.Waiters.call_of.Goals as goal

pub returns-in-None : goal.returns-in-None
returns-in-None c = search (rules, call_of_shown)

pub returns-in-Some : goal.returns-in-Some
returns-in-Some c = search (rules, call_of_shown)
