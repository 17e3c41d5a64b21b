use Rattle.std.proofs.Common.{rules}
use Rattle.sr_waiters.proofs.ReadLemmas.{is_some_first_due}
use Rattle.sr_waiters.proofs.waiters.Waiters.due.Goals as goal

pub returns : goal.returns
returns c = search (rules, is_some_first_due)
