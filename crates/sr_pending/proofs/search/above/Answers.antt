use Rattle.std.proofs.Common.{ℕ, List, drop, ap, ◌∙◌}
use Rattle.sr_pending.specs.steps.Blocks.{at_of, items_of}
use Rattle.sr_pending.specs.steps.Slots.{nack_at}
use Rattle.sr_pending.proofs.PlaceLemmas.{not_below-above, rest_behind, rest_from, slice_range-rest}
use Rattle.sr_pending.proofs.search.above.Goals as goal

pub returns-then-has_at : goal.returns-then-has_at
returns-then-has_at c =
    let slots = items_of c.args.slots.now in
    let at = at_of c.place_below-place.result c.args.slots.now in
    let found = c.has_at.ensures.found c.if-has_at.true in
    c.skip.ensures
    ∙ ap (λ (l : List ℕ). drop 1 l) (c.run-rest.ensures ∙ slice_range-rest slots at _ c.end.ensures.at)
    ∙ rest_behind (nack_at c.args.slab.now) c.args.id slots at found.slot c.requires found.at.here found.at.same

pub returns-else-has_at : goal.returns-else-has_at
returns-else-has_at c =
    let slots = items_of c.args.slots.now in
    c.run-rest.ensures
    ∙ slice_range-rest slots (at_of c.place_below-place.result c.args.slots.now) _ c.end.ensures.at
    ∙ ap (λ (n : ℕ). drop n slots) c.place_below-place.ensures.value
    ∙ rest_from (nack_at c.args.slab.now) slots c.requires c.args.id
    ∙ not_below-above (nack_at c.args.slab.now) c.args.id slots (c.has_at.ensures.none c.if-has_at.false)
