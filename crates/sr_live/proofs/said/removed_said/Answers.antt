use Rattle.std.proofs.Common.{rules, ◌≡◌, ◌∙◌, ℤ, Some, ap, of_z, option_map, sym, to_z, w64}
use Rattle.std.proofs.lemmas.Result.{IfOk-weaker}
use Rattle.sr_peer.specs.{Int, part_of}
use Rattle.sr_live.proofs.SaidLemmas.{SaysRemoved-read, counts-next}
use Rattle.sr_live.proofs.said.removed_said.Goals as goal

pub returns-in-Some-Int-Some-Int-clause-ok : goal.returns-in-Some-Int-Some-Int-clause-ok
returns-in-Some-Int-Some-Int-clause-ok c =
    let counts = c.with_count-counts in
    let read = counts-next c.header.new.parts c.loop.parts c.plain_said.new.parts (option_map part_of c.loop.counts.kept)
    (option_map part_of c.loop.counts.added) (option_map part_of counts.result.kept)
    (option_map part_of counts.result.added) c.in_ok-field.field.now (part_of c.in_ok-field.value) c.loop.invariant
    c.in_ok-field.ensures.next c.in_ok-field.ensures.plain counts.ensures.kept counts.ensures.added in
    let kept : option_map part_of counts.result.kept ≡ Some (Int c.in-Some-Int-Some-Int.kept) = search rules in
    let added : option_map part_of counts.result.added ≡ Some (Int c.in-Some-Int-Some-Int.added) = search rules in
    let few : to_z w64 (of_z w64 c.in-Some-Int-Some-Int.kept) ≡ c.in-Some-Int-Some-Int.kept = search rules in
    let many : to_z w64 (of_z w64 c.in-Some-Int-Some-Int.added) ≡ c.in-Some-Int-Some-Int.added = search rules in
    IfOk-weaker c.difference.result _ _ (λ removed has.
    SaysRemoved-read c.args.parts c.header.new.parts c.plain_said.new.parts c.in_ok-places.places
    (option_map part_of counts.result.kept) (option_map part_of counts.result.added) _ _ removed c.in_ok-places.ensures.ok read
    (kept ∙ ap (λ (n : ℤ). Some (Int n)) (sym few)) (added ∙ ap (λ (n : ℤ). Some (Int n)) (sym many)) has)
    c.difference.ensures.ok

pub loop-preserved : goal.loop-preserved
loop-preserved c =
    let counts = c.with_count-counts in
    counts-next c.header.new.parts c.loop.parts c.plain_said.new.parts (option_map part_of c.loop.counts.kept)
    (option_map part_of c.loop.counts.added) (option_map part_of counts.result.kept)
    (option_map part_of counts.result.added) c.in_ok-field.field.now (part_of c.in_ok-field.value) c.loop.invariant
    c.in_ok-field.ensures.next c.in_ok-field.ensures.plain counts.ensures.kept counts.ensures.added
