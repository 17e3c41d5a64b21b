use Rattle.std.proofs.Common.{ℕ, false, ◌-◌, take, drop, sym, ap, ◌∙◌}
use Rattle.sr_pending.specs.steps.Blocks.{at_of, items_of}
use Rattle.sr_pending.specs.steps.Search.{number_before}
use Rattle.sr_pending.specs.steps.Slots.{nack_at}
use Rattle.sr_pending.proofs.PlaceLemmas.{range_between}
use Rattle.sr_pending.proofs.search.range_of.Goals as goal

pub returns : goal.returns
returns c =
    let slots = items_of c.args.slots.now in
    let slab = c.args.slab.now in
    let past = at_of c.place_before.result c.args.slots.now in
    c.run.ensures
    ∙ ap (λ (n : ℕ). take (past - n) (drop n slots)) c.place_below.ensures.value
    ∙ ap (λ (n : ℕ). take (n - number_before false c.args.start slab slots) (drop (number_before false c.args.start slab slots) slots)) c.place_before.ensures.value
    ∙ sym (range_between (nack_at slab) slots c.args.start c.args.end c.requires)
