use Rattle.std.proofs.Common.{sym, ◌∙◌}
use Rattle.sr_pending.specs.steps.Blocks.{at_of, items_of}
use Rattle.sr_pending.specs.steps.Slots.{nack_at}
use Rattle.sr_pending.proofs.PlaceLemmas.{removed, without_none}
use Rattle.sr_pending.proofs.search.remove_slot.Goals as goal

pub returns-in-Some-clause-items : goal.returns-in-Some-clause-items
returns-in-Some-clause-items c =
    let slots = c.args.slots.now in
    let found = c.in-Some.ensures.found in
    c.remove.ensures.items
    ∙ removed (nack_at c.args.slab.now) c.args.id (items_of slots) (at_of c.in-Some.place slots) found.slot c.requires found.at.here found.at.same

pub returns-in_default-clause-items : goal.returns-in_default-clause-items
returns-in_default-clause-items c =
    sym (without_none (nack_at c.args.slab.now) c.args.id (items_of c.args.slots.now) c.in_default.ensures.none)
