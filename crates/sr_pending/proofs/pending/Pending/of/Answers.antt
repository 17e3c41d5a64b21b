use Rattle.std.proofs.Common.{◌≡◌, ℕ, [], Bool, true, not, List, filter, ap, refl, sym, ◌∙◌}
use Rattle.sr_ids.specs.declared.id.Id.{Id}
use Rattle.sr_pending.specs.steps.Blocks.{items_of}
use Rattle.sr_pending.specs.declared.nack.Nack.{Nack}
use Rattle.sr_ids.specs.{is_below}
use Rattle.sr_pending.specs.Pending.{PendingState, first_of, is_between, owned_by, pending_above, pending_between}
use Rattle.sr_pending.specs.steps.OwnedSlots.{slots_by, slots_in}
use Rattle.sr_pending.specs.steps.Slots.{nacks_at}
use Rattle.sr_pending.proofs.FilterLemmas.{filter-all}
use Rattle.sr_pending.proofs.ListingLemmas.{listed-by, taken-by}
use Rattle.sr_pending.proofs.pending.Pending.of.Goals as goal

pub new-requires-in-Some : goal.new-requires-in-Some
new-requires-in-Some c =
    let owner = c.args.owner.now in
    let mine = items_of c.in-Some.slots.now in
    let found : mine ≡ slots_by c.self.inside.held owner = ap slots_in c.in-Some.ensures.value in
    taken-by c.self.inside.slab (items_of c.self.inside.slots) c.self.invariant.taken (λ _. true) c.all.result owner mine (found ∙ c.self.invariant.indexed owner) (c.all.ensures ∙ sym (filter-all mine))

pub returns-in-None : goal.returns-in-None
returns-in-None c =
    let owner = c.args.owner.now in
    let slab = c.self.inside.slab in
    let slots = items_of c.self.inside.slots in
    let found : [] ≡ slots_by c.self.inside.held owner = ap slots_in c.in-None.ensures.value in
    c.new.ensures
    ∙ ap (nacks_at slab) c.nothing.ensures
    ∙ listed-by slab slots c.self.invariant.taken (λ _. true) [] owner [] (found ∙ c.self.invariant.indexed owner) refl
    ∙ ap (owned_by owner) (filter-all (nacks_at slab slots))
    ∙ ap (λ (l : List Nack). owned_by owner l) (ap (λ (p : PendingState). p.nacks) c.self.view_is)

pub returns-in-Some : goal.returns-in-Some
returns-in-Some c =
    let owner = c.args.owner.now in
    let slab = c.self.inside.slab in
    let slots = items_of c.self.inside.slots in
    let mine = items_of c.in-Some.slots.now in
    let found : mine ≡ slots_by c.self.inside.held owner = ap slots_in c.in-Some.ensures.value in
    c.new-in-Some.ensures
    ∙ listed-by slab slots c.self.invariant.taken (λ _. true) c.all.result owner mine (found ∙ c.self.invariant.indexed owner) (c.all.ensures ∙ sym (filter-all mine))
    ∙ ap (owned_by owner) (filter-all (nacks_at slab slots))
    ∙ ap (λ (l : List Nack). owned_by owner l) (ap (λ (p : PendingState). p.nacks) c.self.view_is)
