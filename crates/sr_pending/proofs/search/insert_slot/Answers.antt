use Rattle.std.proofs.Common.{ℕ, false, ap, ◌∙◌}
use Rattle.std.specs.List.{insert}
use Rattle.sr_ids.specs.declared.id.Id.{Id}
use Rattle.sr_pending.specs.steps.Blocks.{Laid, items_of}
use Rattle.sr_pending.specs.steps.Search.{number_before}
use Rattle.sr_pending.specs.steps.Slots.{nack_at}
use Rattle.sr_pending.proofs.PlaceLemmas.{inserted}
use Rattle.sr_pending.proofs.search.insert_slot.Goals as goal

pub returns-clause-items : goal.returns-clause-items
returns-clause-items c =
    let slots = items_of c.args.slots.now in
    let slab = c.args.slab.now in
    ap (λ (l : Laid ℕ). items_of l) c.note.ensures
    ∙ c.insert.ensures.items
    ∙ ap (λ (n : ℕ). insert slots n c.args.slot) (c.place_before-place.ensures.value ∙ ap (λ (id : Id). number_before false id slab slots) c.id_in.ensures)
    ∙ inserted (nack_at slab) slots c.args.slot c.requires.rising c.requires.fresh
