use Rattle.std.proofs.Common.{rules, Bool, sym}
use Rattle.std.proofs.lemmas.List.Sorted.{IsPartitionPoint-from_clause}
use Rattle.sr_bytes.specs.{comes_before}
use Rattle.sr_pending.proofs.Splitting.{Splits-point, Splits-count}
use Rattle.sr_group.specs.declared.consumer.Consumer.{Consumer}
use Rattle.sr_group.proofs.ConsumerLemmas.{before_first}
use Rattle.sr_group.proofs.consumers.count_before.Goals as goal

pub returns : goal.returns
returns c =
    let consumers = c.args.consumers.now in
    let first : Consumer → Bool = λ x. comes_before x.name c.args.name.now in
    let place = c.partition_point.result in
    let point = IsPartitionPoint-from_clause first consumers place c.partition_point.ensures.partitioned (before_first consumers c.args.name.now c.requires) (λ a r q k. search rules) in
    sym (Splits-count first consumers place (Splits-point first consumers place c.partition_point.ensures.bound point))
