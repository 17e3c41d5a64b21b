use Rattle.std.proofs.Common.{◌≡◌, ℕ, Bool, List, ◌∷◌, ap, subst, sym, ◌∙◌}
use Rattle.sr_ids.specs.declared.id.Id.{Id}
use Rattle.slab.specs.Slab.{Slab}
use Rattle.sr_pending.specs.declared.nack.Nack.{Nack}
use Rattle.sr_pending.specs.Pending.{AreRising, is_same_name}
use Rattle.sr_pending.specs.steps.Blocks.{items_of}
use Rattle.sr_pending.specs.steps.OwnedSlots.{slots_in}
use Rattle.sr_pending.specs.steps.Slots.{nack_at, nacks_at, slots_of, slots_without, slots_without_owner}
use Rattle.sr_pending.proofs.Dropping.{others_all, others_left, rest_left}
use Rattle.sr_pending.proofs.NackLemmas.{AreRising-filter}
use Rattle.sr_pending.proofs.SlotLemmas.{nacks_at-without}
use Rattle.sr_pending.proofs.owned.remove_each.Goals as goal

abbrev is_own : Slab Nack → List ℕ → ℕ → Bool
is_own slab owner slot = is_same_name (nack_at slab slot).owner owner

pub loop-slot-preserved : goal.loop-slot-preserved
loop-slot-preserved c =
    let slab = c.args.slab.now in
    let owner = c.args.owner.now in
    let slot = c.in-Some-next.slot.now in
    let rest = c.next.new.self in
    let slots = items_of c.loop-slot.slots in
    let rising = c.loop-slot.invariant.1 in
    let first : slot ∷ rest ≡ slots_of owner slab slots = sym c.in-Some-next.ensures.some ∙ c.loop-slot.invariant.0 in
    let gone : items_of c.remove_slot.new.slots ≡ slots_without (nack_at slab slot).id slab slots = c.remove_slot.ensures.items ∙ ap (λ (id : Id). slots_without id slab slots) c.id_in.ensures in (
      sym (ap (slots_of owner slab) gone ∙ rest_left (nack_at slab) (is_own slab owner) slot rest slots rising first),
      subst AreRising (sym (ap (nacks_at slab) gone ∙ nacks_at-without slab slots (nack_at slab slot).id)) (AreRising-filter _ (nacks_at slab slots) rising),
      ap (slots_without_owner owner slab) gone ∙ others_left (nack_at slab) (is_own slab owner) slot rest slots rising first ∙ c.loop-slot.invariant.2,
      c.remove_slot.ensures.room ∙ c.loop-slot.invariant.3,
    )

pub returns-in_default-next-clause-items : goal.returns-in_default-next-clause-items
returns-in_default-next-clause-items c =
    sym (others_all (nack_at c.args.slab.now) (is_own c.args.slab.now c.args.owner.now) (items_of c.loop-slot.slots) (sym c.loop-slot.invariant.0 ∙ c.in_default-next.ensures.none))
    ∙ c.loop-slot.invariant.2

pub returns-in_default-clause-items : goal.returns-in_default-clause-items
returns-in_default-clause-items c =
    sym (others_all (nack_at c.args.slab.now) (is_own c.args.slab.now c.args.owner.now) (items_of c.args.slots.now) (sym c.requires.indexed ∙ sym (ap slots_in c.in_default.ensures.value)))
