use Rattle.std.proofs.Common.{◌≡◌, ◌<◌, false, List, ap, subst, sym, ◌∙◌, arith, ℕ}
use Rattle.sr_pending.specs.declared.nack.Nack.{Nack}
use Rattle.sr_pending.specs.Pending.{AreRising, has_id}
use Rattle.sr_pending.specs.steps.Blocks.{items_of}
use Rattle.sr_pending.specs.steps.OwnedSlots.{slots_by, slots_in, spare_by, spare_in}
use Rattle.sr_pending.specs.steps.Slots.{nack_at, nacks_at}
use Rattle.sr_pending.proofs.held.put_slot.Goals as goal

pub insert_slot-requires-clause-rising : goal.insert_slot-requires-clause-rising
insert_slot-requires-clause-rising c =
    let found : items_of c.in-Some.slots.now ≡ slots_by c.args.held.now (nack_at c.args.slab.now c.args.slot).owner = ap slots_in c.in-Some.ensures.value ∙ ap (slots_by c.args.held.now) (c.name.ensures ∙ ap (λ (n : Nack). n.owner) c.entry.ensures) in
    subst (λ (l : List ℕ). AreRising (nacks_at c.args.slab.now l)) (sym found) c.requires.rising

pub insert_slot-requires-clause-fresh : goal.insert_slot-requires-clause-fresh
insert_slot-requires-clause-fresh c =
    let found : items_of c.in-Some.slots.now ≡ slots_by c.args.held.now (nack_at c.args.slab.now c.args.slot).owner = ap slots_in c.in-Some.ensures.value ∙ ap (slots_by c.args.held.now) (c.name.ensures ∙ ap (λ (n : Nack). n.owner) c.entry.ensures) in
    subst (λ (l : List ℕ). has_id (nack_at c.args.slab.now c.args.slot).id (nacks_at c.args.slab.now l) ≡ false) (sym found) c.requires.fresh

pub insert_slot-requires-clause-room : goal.insert_slot-requires-clause-room
insert_slot-requires-clause-room c =
    let found : spare_by c.args.held.now (nack_at c.args.slab.now c.args.slot).owner ≡ c.in-Some.slots.now.room = sym (ap spare_in c.in-Some.ensures.value ∙ ap (spare_by c.args.held.now) (c.name.ensures ∙ ap (λ (n : Nack). n.owner) c.entry.ensures)) in
    omega (arith, found, c.requires.spare)
