use Rattle.std.proofs.Common.{ℕ, List, length, ap, sym, ◌∙◌}
use Rattle.std.proofs.lemmas.List.{length-map}
use Rattle.sr_pending.specs.declared.nack.Nack.{Nack}
use Rattle.sr_pending.specs.Pending.{PendingState, owned_by}
use Rattle.sr_pending.specs.steps.Blocks.{items_of}
use Rattle.sr_pending.specs.steps.Slots.{nack_at, slots_of}
use Rattle.sr_pending.proofs.SlotLemmas.{nacks_at-of}
use Rattle.sr_pending.proofs.pending.Pending.count_of.Goals as goal

pub returns-clause-value : goal.returns-clause-value
returns-clause-value c =
    let owner = c.args.owner.now in
    let slab = c.self.inside.slab in
    let slots = items_of c.self.inside.slots in
    c.held_for.ensures.value
    ∙ ap (λ (l : List ℕ). length l) (c.self.invariant.indexed owner)
    ∙ sym (length-map (slots_of owner slab slots) (nack_at slab))
    ∙ ap (λ (l : List Nack). length l) (nacks_at-of slab slots owner)
    ∙ ap (λ (p : PendingState). length (owned_by owner p.nacks)) c.self.view_is
