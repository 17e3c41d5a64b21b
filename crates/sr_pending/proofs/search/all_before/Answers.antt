use Rattle.std.proofs.Common.{◌≡◌, ℕ, Bool, true, ap, sym, ◌∙◌}
use Rattle.sr_pending.specs.steps.Blocks.{ends_in, items_of, passes}
use Rattle.sr_pending.specs.steps.Search.{is_before}
use Rattle.sr_pending.specs.steps.Slots.{nack_at}
use Rattle.sr_pending.proofs.PlaceLemmas.{last_before}
use Rattle.sr_pending.proofs.search.all_before.Goals as goal

pub returns-in-Some : goal.returns-in-Some
returns-in-Some c is =
    let slots = items_of c.args.slots.now in
    let test : ℕ → Bool = λ s. is_before c.args.upto c.args.id (nack_at c.args.slab.now s) in
    let ends : ends_in test slots ≡ true = ap (passes test) (sym c.in-Some.ensures) ∙ sym c.lies_before.ensures ∙ is in
    last_before (nack_at c.args.slab.now) slots c.requires c.args.id c.args.upto ends

pub returns-in-None : goal.returns-in-None
returns-in-None c is =
    let slots = items_of c.args.slots.now in
    let test : ℕ → Bool = λ s. is_before c.args.upto c.args.id (nack_at c.args.slab.now s) in
    last_before (nack_at c.args.slab.now) slots c.requires c.args.id c.args.upto (ap (passes test) (sym c.in-None.ensures))
