use Rattle.std.proofs.Common.{ℕ, drop, ap, ◌∙◌}
use Rattle.sr_pending.specs.steps.Blocks.{at_of, items_of}
use Rattle.sr_pending.specs.steps.Slots.{nack_at}
use Rattle.sr_pending.proofs.PlaceLemmas.{rest_from, slice_range-rest}
use Rattle.sr_pending.proofs.search.from.Goals as goal

pub returns : goal.returns
returns c =
    let slots = items_of c.args.slots.now in
    c.run.ensures
    ∙ slice_range-rest slots (at_of c.place_below.result c.args.slots.now) _ c.end.ensures.at
    ∙ ap (λ (n : ℕ). drop n slots) c.place_below.ensures.value
    ∙ rest_from (nack_at c.args.slab.now) slots c.requires c.args.id
