use Rattle.std.proofs.Common.{ℕ, List, [], ap, subst, sym, ◌∙◌, arith}
use Rattle.std.proofs.lemmas.List.Elements.{All-filter}
use Rattle.slab.specs.Slab.{ContainsKey}
use Rattle.sr_pending.specs.steps.Blocks.{items_of}
use Rattle.sr_pending.specs.Pending.{PendingState, is_same_name, room_left, without_owner}
use Rattle.sr_pending.specs.steps.OwnedSlots.{Gives, slots_by}
use Rattle.sr_pending.specs.steps.Slots.{AreTaken, nack_at}
use Rattle.sr_pending.proofs.HeldLemmas.{AreRising-by, HasSpare-given}
use Rattle.sr_pending.proofs.SlotLemmas.{AreDistinct-rising}
use Rattle.sr_pending.proofs.SoundLemmas.{IsSound-dropped, left-dropped}
use Rattle.sr_pending.proofs.pending.Pending.drop_owner.Goals as goal

pub free_all-requires-clause-taken : goal.free_all-requires-clause-taken
free_all-requires-clause-taken c =
    let owner = c.args.owner.now in
    let slab = c.self.inside.slab in
    subst (λ (l : List ℕ). AreTaken slab l) (sym (c.self.invariant.indexed owner)) (All-filter (λ s. is_same_name (nack_at slab s).owner owner) (λ (s : ℕ). ContainsKey slab s) (items_of c.self.inside.slots) c.self.invariant.taken)

pub free_all-requires-clause-distinct : goal.free_all-requires-clause-distinct
free_all-requires-clause-distinct c =
    let owner = c.args.owner.now in
    let p = c.self.inside in
    AreDistinct-rising p.slab (slots_by p.held owner) (AreRising-by p.held p.slab (items_of p.slots) c.self.invariant.indexed owner c.self.invariant.rising)

pub invariant_of-self : goal.invariant_of-self
invariant_of-self c =
    let p = c.self.inside in
    let owner = c.args.owner.now in
    let rooms = p.rooms.items in
    let now = c.clear.new.held in
    let new = c.remove_owned.new.slots in
    let gives : Gives owner [] (room_left owner rooms) p.held now = rw (c.room_for.ensures, c.as_slice.ensures.value) at c.clear.ensures in
    let spared = HasSpare-given p.held now owner [] rooms c.self.invariant.spared (room_left owner rooms) gives (omega arith) in
    IsSound-dropped p.slab c.free_all.new.slab (items_of p.slots) (items_of new) rooms p.held p.slots.room owner c.self.invariant c.remove_owned.ensures.items c.free_all.ensures now new.room (room_left owner rooms) c.remove_owned.ensures.room gives spared

pub returns-clause-nacks : goal.returns-clause-nacks
returns-clause-nacks c =
    let p = c.self.inside in
    let owner = c.args.owner.now in
    ap (λ (p : PendingState). p.nacks) c.give_back.ensures
    ∙ left-dropped p.slab c.free_all.new.slab (items_of p.slots) (items_of c.remove_owned.new.slots) p.rooms.items p.held p.slots.room owner c.self.invariant c.remove_owned.ensures.items c.free_all.ensures
    ∙ ap (λ (p : PendingState). without_owner owner p.nacks) c.self.view_is
