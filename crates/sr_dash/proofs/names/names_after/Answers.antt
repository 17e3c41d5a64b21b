use Rattle.std.proofs.Common.{rules, Bool, not, ◌∙◌}
use Rattle.std.proofs.lemmas.List.Sorted.{IsPartitionPoint-from_clause}
use Rattle.sr_bytes.specs.{comes_before}
use Rattle.sr_pending.proofs.Splitting.{Splits-point}
use Rattle.sr_policy.specs.{Text}
use Rattle.sr_dash.proofs.NameLemmas.{not_after_first, drop-not_Splits, drop-whole}
use Rattle.sr_dash.proofs.names.names_after.Goals as goal

pub returns : goal.returns
returns c =
    let names = c.args.names.now in
    let after : Text → Bool = λ other. comes_before c.args.name.now other in
    let first : Text → Bool = λ other. not (after other) in
    let count = c.partition_point-count.result in
    let point = IsPartitionPoint-from_clause first names count c.partition_point-count.ensures.partitioned (not_after_first names c.args.name.now c.requires) (λ a r q k. search rules) in
    drop-whole names count ∙ drop-not_Splits after names count (Splits-point first names count c.partition_point-count.ensures.bound point)
