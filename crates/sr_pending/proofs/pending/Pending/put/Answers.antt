use Rattle.std.proofs.Common.{◌≡◌, ℕ, false, List, ap, subst, sym, ◌∙◌}
use Rattle.sr_ids.specs.declared.id.Id.{Id}
use Rattle.sr_pending.specs.steps.Blocks.{items_of}
use Rattle.sr_pending.specs.declared.nack.Nack.{Nack}
use Rattle.sr_pending.specs.Pending.{PendingState, UsesRoom, has_id, with_nack}
use Rattle.sr_pending.specs.steps.Slots.{nack_at}
use Rattle.sr_pending.proofs.HeldLemmas.{AreRising-by, HasSpare-used, has_id-by}
use Rattle.sr_pending.proofs.SoundLemmas.{IsSound-put, added-put, fresh-put, here-put, indexed-put, rising-put}
use Rattle.sr_pending.proofs.pending.Pending.put.Goals as goal

pub insert_slot-requires-clause-rising : goal.insert_slot-requires-clause-rising
insert_slot-requires-clause-rising c =
    let p = c.self.inside in
    let put = c.insert_reserved-slot in
    let fresh = rw (← ap (λ (p : PendingState). p.nacks) c.self.view_is) at c.requires.fresh in
    rising-put p.slab put.new.self (items_of p.slots) p.rooms.items p.held p.slots.room put.result c.args.nack c.self.invariant put.ensures.was_vacant put.ensures.updates fresh

pub insert_slot-requires-clause-fresh : goal.insert_slot-requires-clause-fresh
insert_slot-requires-clause-fresh c =
    let p = c.self.inside in
    let put = c.insert_reserved-slot in
    let fresh = rw (← ap (λ (p : PendingState). p.nacks) c.self.view_is) at c.requires.fresh in
    fresh-put p.slab put.new.self (items_of p.slots) p.rooms.items p.held p.slots.room put.result c.args.nack c.self.invariant put.ensures.was_vacant put.ensures.updates fresh

pub put_slot-requires-clause-rising : goal.put_slot-requires-clause-rising
put_slot-requires-clause-rising c =
    let p = c.self.inside in
    let put = c.insert_reserved-slot in
    let slots = items_of p.slots in
    let fresh = rw (← ap (λ (p : PendingState). p.nacks) c.self.view_is) at c.requires.fresh in
    let indexed = indexed-put p.slab put.new.self slots p.rooms.items p.held p.slots.room put.result c.args.nack c.self.invariant put.ensures.was_vacant put.ensures.updates fresh in
    AreRising-by p.held put.new.self slots indexed (nack_at put.new.self put.result).owner (rising-put p.slab put.new.self slots p.rooms.items p.held p.slots.room put.result c.args.nack c.self.invariant put.ensures.was_vacant put.ensures.updates fresh)

pub put_slot-requires-clause-fresh : goal.put_slot-requires-clause-fresh
put_slot-requires-clause-fresh c =
    let p = c.self.inside in
    let put = c.insert_reserved-slot in
    let slots = items_of p.slots in
    let fresh = rw (← ap (λ (p : PendingState). p.nacks) c.self.view_is) at c.requires.fresh in
    let indexed = indexed-put p.slab put.new.self slots p.rooms.items p.held p.slots.room put.result c.args.nack c.self.invariant put.ensures.was_vacant put.ensures.updates fresh in
    has_id-by p.held put.new.self slots indexed (nack_at put.new.self put.result).owner (nack_at put.new.self put.result).id (fresh-put p.slab put.new.self slots p.rooms.items p.held p.slots.room put.result c.args.nack c.self.invariant put.ensures.was_vacant put.ensures.updates fresh)

pub invariant_of-self : goal.invariant_of-self
invariant_of-self c =
    let p = c.self.inside in
    let put = c.insert_reserved-slot in
    let slots = items_of p.slots in
    let rooms = p.rooms.items in
    let left = c.use_room.new.rooms.items in
    let now = c.put_slot.new.held in
    let owner = (nack_at put.new.self put.result).owner in
    let fresh = rw (← ap (λ (p : PendingState). p.nacks) c.self.view_is) at c.requires.fresh in
    let is : (nack_at put.new.self put.result) ≡ c.args.nack = here-put p.slab put.new.self slots rooms p.held p.slots.room put.result c.args.nack c.self.invariant put.ensures.was_vacant put.ensures.updates fresh in
    let uses : UsesRoom owner rooms left = subst (λ (o : List ℕ). UsesRoom o rooms left) (c.name.ensures ∙ sym (ap (λ (n : Nack). n.owner) is)) c.use_room.ensures.used in
    let spared = HasSpare-used p.held now owner _ rooms c.self.invariant.spared left c.put_slot.ensures uses in
    IsSound-put p.slab put.new.self slots rooms p.held p.slots.room put.result c.args.nack c.self.invariant put.ensures.was_vacant put.ensures.updates fresh (items_of c.insert_slot.new.slots) left now c.insert_slot.new.slots.room put.ensures.len put.ensures.capacity c.requires.countable c.insert_slot.ensures.items c.use_room.ensures.in_all c.insert_slot.ensures.room c.put_slot.ensures spared

pub returns-clause-nacks : goal.returns-clause-nacks
returns-clause-nacks c =
    let p = c.self.inside in
    let put = c.insert_reserved-slot in
    let fresh = rw (← ap (λ (p : PendingState). p.nacks) c.self.view_is) at c.requires.fresh in
    added-put p.slab put.new.self (items_of p.slots) p.rooms.items p.held p.slots.room put.result c.args.nack c.self.invariant put.ensures.was_vacant put.ensures.updates fresh (items_of c.insert_slot.new.slots) c.insert_slot.ensures.items
    ∙ ap (λ (p : PendingState). with_nack c.args.nack p.nacks) c.self.view_is
