use Rattle.std.proofs.Common.{List, refl, subst}
use Rattle.sr_live.specs.Said.{Listed}
use Rattle.sr_live.proofs.LookingLemmas.{AreTold, says-range}
use Rattle.sr_live.proofs.ranges.rows_told.Goals as goal

pub returns-clause-told : goal.returns-clause-told
returns-clause-told c =
    let range = c.args.range in
    let entries : List Listed = c.in_ok-entries.entries.items in
    let told = subst (λ (l : List Listed). AreTold range.first range.last range.count l c.args.listed.now c.in_ok-told.told
    c.args.found.now.rows.items c.push_told.new.found.rows.items c.args.found.now.wanted c.push_told.new.found.wanted)
    c.as_slice-2.ensures.value c.in_ok-told.ensures.told in (
      entries,
      told.0,
      says-range range.first range.last range.count c.args.parts entries c.as_slice.result.now c.as_slice.ensures.value
          c.in_ok-entries.ensures.ok (c.if-not-are_of.ensures.few refl) (c.if-not-are_of.ensures.inside refl)
          (c.if-not-are_of.ensures.rising refl),
      told.1,
      told.2,
      told.3,
      told.4,
    )
