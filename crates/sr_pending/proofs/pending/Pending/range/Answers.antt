use Rattle.std.proofs.Common.{◌≡◌, ℕ, [], Bool, true, not, List, filter, ap, refl, subst, sym, ◌∙◌}
use Rattle.sr_ids.specs.declared.id.Id.{Id}
use Rattle.sr_pending.specs.steps.Blocks.{items_of}
use Rattle.sr_pending.specs.declared.nack.Nack.{Nack}
use Rattle.sr_ids.specs.{is_below}
use Rattle.sr_pending.specs.Pending.{AreRising, PendingState, first_of, is_between, owned_by, pending_above, pending_between}
use Rattle.sr_pending.specs.steps.OwnedSlots.{slots_by, slots_in}
use Rattle.sr_pending.specs.steps.Slots.{nacks_at}
use Rattle.sr_pending.proofs.HeldLemmas.{AreRising-by}
use Rattle.sr_pending.proofs.ListingLemmas.{listed-all, listed-by, owned_by_named-none, taken-all, taken-by}
use Rattle.sr_pending.proofs.pending.Pending.range.Goals as goal

pub new-requires : goal.new-requires
new-requires c =
    taken-all c.self.inside.slab (items_of c.self.inside.slots) c.self.invariant.taken (λ id. is_between c.args.start c.args.end id) c.range_of-slots.result c.range_of-slots.ensures

pub range_of-slots-requires-in-Some-get : goal.range_of-slots-requires-in-Some-get
range_of-slots-requires-in-Some-get c =
    let owner = c.in-Some.owner.now in
    let slab = c.self.inside.slab in
    let found : items_of c.in-Some-get.slots.now ≡ slots_by c.self.inside.held owner = ap slots_in c.in-Some-get.ensures.value in
    subst (λ (l : List ℕ). AreRising (nacks_at slab l)) (sym found) (AreRising-by c.self.inside.held slab (items_of c.self.inside.slots) c.self.invariant.indexed owner c.self.invariant.rising)

pub new-requires-in-Some-get : goal.new-requires-in-Some-get
new-requires-in-Some-get c =
    let owner = c.in-Some.owner.now in
    let mine = items_of c.in-Some-get.slots.now in
    let found : mine ≡ slots_by c.self.inside.held owner = ap slots_in c.in-Some-get.ensures.value in
    taken-by c.self.inside.slab (items_of c.self.inside.slots) c.self.invariant.taken (λ id. is_between c.args.start c.args.end id) c.range_of-slots-in-Some-get.result owner mine (found ∙ c.self.invariant.indexed owner) c.range_of-slots-in-Some-get.ensures

pub returns-in-None : goal.returns-in-None
returns-in-None c =
    rw c.in-None.is
    (c.new.ensures
    ∙ ap (first_of c.args.count) (listed-all c.self.inside.slab (items_of c.self.inside.slots) c.self.invariant.taken (λ id. is_between c.args.start c.args.end id) c.range_of-slots.result c.range_of-slots.ensures)
    ∙ ap (λ (l : List Nack). first_of c.args.count (pending_between c.args.start c.args.end l)) (ap (λ (p : PendingState). p.nacks) c.self.view_is)
    ∙ sym (ap (first_of c.args.count) (owned_by_named-none (pending_between c.args.start c.args.end c.args.self.now.nacks))))

pub returns-in-None-get : goal.returns-in-None-get
returns-in-None-get c =
    let owner = c.in-Some.owner.now in
    let slab = c.self.inside.slab in
    let found : [] ≡ slots_by c.self.inside.held owner = ap slots_in c.in-None-get.ensures.value in
    rw c.in-Some.is
    (c.new-in-None-get.ensures
    ∙ ap (λ (l : List ℕ). first_of c.args.count (nacks_at slab l)) c.nothing.ensures
    ∙ ap (first_of c.args.count) (listed-by slab (items_of c.self.inside.slots) c.self.invariant.taken (λ id. is_between c.args.start c.args.end id) [] owner [] (found ∙ c.self.invariant.indexed owner) refl)
    ∙ ap (λ (l : List Nack). first_of c.args.count (owned_by owner (pending_between c.args.start c.args.end l))) (ap (λ (p : PendingState). p.nacks) c.self.view_is))

pub returns-in-Some-get : goal.returns-in-Some-get
returns-in-Some-get c =
    let owner = c.in-Some.owner.now in
    let mine = items_of c.in-Some-get.slots.now in
    let found : mine ≡ slots_by c.self.inside.held owner = ap slots_in c.in-Some-get.ensures.value in
    rw c.in-Some.is
    (c.new-in-Some-get.ensures
    ∙ ap (first_of c.args.count) (listed-by c.self.inside.slab (items_of c.self.inside.slots) c.self.invariant.taken (λ id. is_between c.args.start c.args.end id) c.range_of-slots-in-Some-get.result owner mine (found ∙ c.self.invariant.indexed owner) c.range_of-slots-in-Some-get.ensures)
    ∙ ap (λ (l : List Nack). first_of c.args.count (owned_by owner (pending_between c.args.start c.args.end l))) (ap (λ (p : PendingState). p.nacks) c.self.view_is))
