use Rattle.std.proofs.Common.{rules, Bool, List, ℕ, sym}
use Rattle.std.proofs.lemmas.List.Sorted.{IsPartitionPoint-from_clause}
use Rattle.sr_bytes.specs.{comes_before}
use Rattle.sr_pending.proofs.Splitting.{Splits-point, Splits-count}
use Rattle.sr_space.proofs.NameOrderLemmas.{before_first, names_rise}
use Rattle.sr_space.proofs.snap.names.place_for.Goals as goal

pub returns-clause-value : goal.returns-clause-value
returns-clause-value c =
    let names = c.args.names.now in
    let first : List ℕ → Bool = λ x. comes_before x c.args.name.now in
    let place = c.partition_point.result in
    let point = IsPartitionPoint-from_clause first names place c.partition_point.ensures.partitioned (before_first names c.args.name.now (names_rise names c.requires)) (λ a r q k. search rules) in
    sym (Splits-count first names place (Splits-point first names place c.partition_point.ensures.bound point))
