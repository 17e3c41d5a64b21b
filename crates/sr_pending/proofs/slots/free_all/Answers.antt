use Rattle.std.proofs.Common.{◌≡◌, ◌≢◌, ℕ, ◌+◌, List, [], ◌∷◌, None, refl, ap, subst, sym, ◌∙◌, arith}
use Rattle.std.specs.List.{All}
use Rattle.std.proofs.lemmas.List.Elements.{All-head, All-rest, All-tail}
use Rattle.slab.specs.Slab.{Slab, ContainsKey, Updates, get, slab_len}
use Rattle.sr_pending.specs.declared.nack.Nack.{Nack}
use Rattle.sr_pending.specs.steps.Blocks.{items_of}
use Rattle.sr_pending.specs.steps.OwnedSlots.{slots_by, slots_in}
use Rattle.sr_pending.specs.steps.Slots.{AreDistinct, AreTaken, Frees}
use Rattle.sr_pending.proofs.SlotLemmas.{AreSame-updated, AreTaken-same}
use Rattle.sr_pending.proofs.slots.free_all.Goals as goal

-- none is freed, or one more
frees-none : (slots : List ℕ) (slab : Slab Nack) → slots ≡ [] → Frees slots slab slab
frees-none slots slab none = subst (λ (l : List ℕ). Frees l slab slab) (sym none) (record { others = λ _ _. refl; len = omega arith; capacity = refl })

frees-more : (slot : ℕ) (slots : List ℕ) (old mid last : Slab Nack) → Updates old mid slot None → slab_len mid + 1 ≡ slab_len old → mid.capacity ≡ old.capacity → Frees slots mid last → Frees (slot ∷ slots) old last
frees-more slot slots old mid last updates len capacity frees = record {
  others = λ s apart. frees.others s (All-tail (λ (freed : ℕ). freed ≢ s) slot slots apart) ∙ updates.others s (λ same. All-head (λ (freed : ℕ). freed ≢ s) slot slots apart (sym same));
  len = omega (arith, frees.len, len);
  capacity = frees.capacity ∙ capacity;
}

pub loop-slot-init : goal.loop-slot-init
loop-slot-init c =
    let found : c.all-rest.result ≡ slots_by c.args.held.now c.args.owner.now = c.all-rest.ensures ∙ ap slots_in c.in-Some.ensures.value in (
      subst (λ (l : List ℕ). AreTaken c.args.slab.now l) (sym found) c.requires.taken,
      subst AreDistinct (sym found) c.requires.distinct,
      λ last frees. subst (λ (l : List ℕ). Frees l c.args.slab.now last) found frees,
    )

pub loop-slot-preserved : goal.loop-slot-preserved
loop-slot-preserved c =
    let slot = c.in-Some-next.slot.now in
    let rest = c.next.new.self in
    let old = c.loop-slot.slab in
    let mid = c.remove.new.self in
    let updates = c.remove.ensures.updates in
    let first : c.loop-slot.rest ≡ slot ∷ rest = c.in-Some-next.ensures.some in
    let distinct : AreDistinct (slot ∷ rest) = subst AreDistinct first c.loop-slot.invariant.1 in
    let taken : AreTaken old rest = All-rest (λ (s : ℕ). ContainsKey old s) slot rest c.loop-slot.rest first c.loop-slot.invariant.0 in (
      AreTaken-same old mid rest (AreSame-updated old mid rest slot None updates distinct.0) taken,
      distinct.1,
      λ last frees. c.loop-slot.invariant.2 last (subst (λ (l : List ℕ). Frees l old last) (sym first) (frees-more slot rest old mid last updates c.remove.ensures.len c.remove.ensures.capacity frees)),
    )

pub returns-in_default-next : goal.returns-in_default-next
returns-in_default-next c =
    c.loop-slot.invariant.2 c.loop-slot.slab (frees-none c.loop-slot.rest c.loop-slot.slab c.in_default-next.ensures.none)
