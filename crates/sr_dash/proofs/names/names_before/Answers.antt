use Rattle.std.proofs.Common.{rules, Bool}
use Rattle.std.proofs.lemmas.List.Sorted.{IsPartitionPoint-from_clause}
use Rattle.sr_bytes.specs.{comes_before}
use Rattle.sr_pending.proofs.Splitting.{Splits-point}
use Rattle.sr_policy.specs.{Text}
use Rattle.sr_dash.proofs.NameLemmas.{before_first, take-Splits}
use Rattle.sr_dash.proofs.names.names_before.Goals as goal

pub returns : goal.returns
returns c =
    let names = c.args.names.now in
    let first : Text → Bool = λ other. comes_before other c.args.name.now in
    let count = c.partition_point-count.result in
    let point = IsPartitionPoint-from_clause first names count c.partition_point-count.ensures.partitioned (before_first names c.args.name.now c.requires) (λ a r q k. search rules) in
    take-Splits first names count (Splits-point first names count c.partition_point-count.ensures.bound point)
