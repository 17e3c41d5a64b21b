use Rattle.std.proofs.Common.{rules}
use Rattle.std.proofs.lemmas.List.Sorted.{IsPartitionPoint-from_clause}
use Rattle.sr_bytes.specs.{comes_before}
use Rattle.sr_policy.proofs.NameLemmas.{before_first, by_names}
use Rattle.sr_policy.proofs.numbers.place_for.Goals as goal

pub returns-clause-place : goal.returns-clause-place
returns-clause-place g c =
    let name = c.args.name.now in
    let pairs = c.args.pairs.now in
    IsPartitionPoint-from_clause (λ pair. comes_before pair.0 name) pairs c.partition_point.result
    c.partition_point.ensures.partitioned
    (before_first (λ pair. pair.0) pairs name (by_names (λ pair. pair.0) pairs c.requires))
    (λ a r q k. search rules)
