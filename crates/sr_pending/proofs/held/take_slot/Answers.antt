use Rattle.std.proofs.Common.{◌≡◌, List, ap, subst, sym, ◌∙◌, ℕ}
use Rattle.sr_pending.specs.declared.nack.Nack.{Nack}
use Rattle.sr_pending.specs.Pending.{AreRising}
use Rattle.sr_pending.specs.steps.Blocks.{items_of}
use Rattle.sr_pending.specs.steps.OwnedSlots.{slots_by, slots_in}
use Rattle.sr_pending.specs.steps.Slots.{nack_at, nacks_at}
use Rattle.sr_pending.proofs.held.take_slot.Goals as goal

pub remove_slot-requires : goal.remove_slot-requires
remove_slot-requires c =
    let found : items_of c.in-Some.slots.now ≡ slots_by c.args.held.now (nack_at c.args.slab.now c.args.slot).owner = ap slots_in c.in-Some.ensures.value ∙ ap (slots_by c.args.held.now) (c.name.ensures ∙ ap (λ (n : Nack). n.owner) c.entry-nack.ensures) in
    subst (λ (l : List ℕ). AreRising (nacks_at c.args.slab.now l)) (sym found) c.requires.rising
