use Rattle.std.proofs.Common.{rules, ℕ, List, Bool, sym}
use Rattle.std.proofs.lemmas.List.Sorted.{IsPartitionPoint-from_clause}
use Rattle.sr_bytes.specs.{comes_before}
use Rattle.sr_group.specs.{KeptGroup}
use Rattle.sr_pending.proofs.Splitting.{Splits-point, Splits-count}
use Rattle.sr_stream.proofs.GroupsLemmas.{before_first}
use Rattle.sr_stream.proofs.places.count_before.Goals as goal

pub returns : goal.returns
returns c =
    let groups = c.args.groups.now in
    let first : List ℕ × KeptGroup → Bool = λ x. comes_before x.0 c.args.name.now in
    let place = c.partition_point.result in
    let point = IsPartitionPoint-from_clause first groups place c.partition_point.ensures.partitioned (before_first groups c.args.name.now c.requires) (λ a r q k. search rules) in
    sym (Splits-count first groups place (Splits-point first groups place c.partition_point.ensures.bound point))
