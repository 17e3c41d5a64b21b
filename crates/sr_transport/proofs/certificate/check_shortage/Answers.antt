use Rattle.std.proofs.Common.{rules}
use Rattle.sr_transport.proofs.CallerLemmas.{shortage_excludes}
use Rattle.sr_transport.proofs.certificate.check_shortage.Goals as goal

pub returns-then-are_entries-clause-none : goal.returns-then-are_entries-clause-none
returns-then-are_entries-clause-none c = search (rules, shortage_excludes)
