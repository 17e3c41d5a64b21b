use Rattle.std.proofs.Common.{◌≡◌, ℕ, true, false, Some, None, slice_get, ap, subst, sym, ◌∙◌}
use Rattle.sr_ids.specs.{is_same_id}
use Rattle.sr_pending.specs.steps.Blocks.{items_of}
use Rattle.sr_pending.specs.steps.Search.{number_before}
use Rattle.sr_pending.specs.steps.Slots.{nack_at}
use Rattle.sr_pending.proofs.NackLemmas.{is_same_id-refl}
use Rattle.sr_pending.proofs.PlaceLemmas.{nowhere}
use Rattle.sr_pending.proofs.search.has_at.Goals as goal

pub returns-in-None-clause-none : goal.returns-in-None-clause-none
returns-in-None-clause-none c is =
    let slots = items_of c.args.slots.now in
    let slab = c.args.slab.now in
    let nothing : slice_get slots (number_before false c.args.id slab slots) ≡ None = rw c.requires.begin.value at (sym c.in-None.ensures) in
    nowhere (nack_at slab) c.args.id slots c.requires.rising (λ x here same. let both = sym nothing ∙ here in cc)

pub returns-in-Some-clause-none : goal.returns-in-Some-clause-none
returns-in-Some-clause-none c is =
    let slots = items_of c.args.slots.now in
    let slab = c.args.slab.now in
    let slot = c.in-Some.slot.now in
    let here : slice_get slots (number_before false c.args.id slab slots) ≡ Some slot = rw c.requires.begin.value at (sym c.in-Some.ensures) in
    let apart : is_same_id (nack_at slab slot).id c.args.id ≡ false = ap (λ i. is_same_id i c.args.id) (sym c.id_in.ensures) ∙ sym c.eq.ensures ∙ is in
    nowhere (nack_at slab) c.args.id slots c.requires.rising (λ x there same.
    let one : slot ≡ x = let both = sym here ∙ there in cc in
    let test : is_same_id (nack_at slab slot).id c.args.id ≡ true = subst (λ (s : ℕ). is_same_id (nack_at slab s).id c.args.id ≡ true) (sym one) (subst (λ i. is_same_id i c.args.id ≡ true) (sym same) (is_same_id-refl c.args.id)) in
    let both = sym apart ∙ test in cc)
