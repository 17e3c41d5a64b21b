use Rattle.std.proofs.Common.{rules}
use Rattle.std.proofs.lemmas.List.Sorted.{IsPartitionPoint-from_clause}
use Rattle.sr_bytes.specs.{comes_before}
use Rattle.sr_policy.proofs.NameLemmas.{before_first}
use Rattle.sr_policy.proofs.snapshot_rules.place_for.Goals as goal

pub returns-clause-place : goal.returns-clause-place
returns-clause-place c =
    let name = c.args.name.now in
    let names = c.args.names.now in
    IsPartitionPoint-from_clause (λ other. comes_before other name) names c.partition_point.result
    c.partition_point.ensures.partitioned (before_first (λ other. other) names name c.requires)
    (λ a r q k. search rules)
