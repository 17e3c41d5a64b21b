use Rattle.std.proofs.Common.{rules, Bool, nat_lt, sym}
use Rattle.std.proofs.lemmas.List.Sorted.{IsPartitionPoint-from_clause}
use Rattle.sr_pending.proofs.Splitting.{Splits-point, Splits-count}
use Rattle.sr_book.specs.Server.{Session}
use Rattle.sr_book.proofs.SessionLemmas.{below_first}
use Rattle.sr_book.proofs.sessions.count_below.Goals as goal

pub returns : goal.returns
returns c =
    let sessions = c.args.sessions.now in
    let before : Session → Bool = λ s. nat_lt s.number c.args.number in
    let place = c.partition_point.result in
    let point = IsPartitionPoint-from_clause before sessions place c.partition_point.ensures.partitioned (below_first sessions c.args.number c.requires) (λ a r q k. search rules) in
    sym (Splits-count before sessions place (Splits-point before sessions place c.partition_point.ensures.bound point))
