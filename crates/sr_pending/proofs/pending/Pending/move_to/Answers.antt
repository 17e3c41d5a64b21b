use Rattle.std.proofs.Common.{◌≡◌, ◌≤◌, ℕ, List, ap, refl, subst, sym, ◌∙◌, arith}
use Rattle.std.specs.HashMap.{HashMap}
use Rattle.sr_pending.specs.steps.Blocks.{items_of}
use Rattle.sr_pending.specs.declared.nack.Nack.{Nack}
use Rattle.sr_pending.specs.Pending.{PendingState, UsesRoom, moved}
use Rattle.sr_pending.specs.steps.OwnedSlots.{HasSpare, spare_by}
use Rattle.sr_pending.specs.steps.Room.{rooms_in_all}
use Rattle.sr_pending.specs.steps.Slots.{nack_at, nack_or, slots_without}
use Rattle.sr_pending.proofs.HeldLemmas.{AreRising-by, HasSpare-given, HasSpare-used, has_id-by}
use Rattle.sr_pending.proofs.ListingLemmas.{taken-found}
use Rattle.sr_pending.proofs.SoundLemmas.{IsSound-changed, changed-all, fresh-between, indexed-between, indexed-moved, rising-between}
use Rattle.sr_pending.proofs.pending.Pending.move_to.Goals as goal

pub take_slot-requires-clause-taken : goal.take_slot-requires-clause-taken
take_slot-requires-clause-taken c =
    let p = c.self.inside in
    let slots = items_of p.slots in
    let slot = c.pending_slot-slot.result in
    let found = c.pending_slot-slot.ensures in
    taken-found p.slab slots c.self.invariant.taken slot found.place found.at.here

pub take_slot-requires-clause-rising : goal.take_slot-requires-clause-rising
take_slot-requires-clause-rising c =
    let p = c.self.inside in
    let slots = items_of p.slots in
    let slot = c.pending_slot-slot.result in
    let found = c.pending_slot-slot.ensures in
    AreRising-by p.held p.slab slots c.self.invariant.indexed (nack_at p.slab slot).owner c.self.invariant.rising

pub give_in-requires : goal.give_in-requires
give_in-requires c =
    let p = c.self.inside in
    let slots = items_of p.slots in
    let slot = c.pending_slot-slot.result in
    let found = c.pending_slot-slot.ensures in
    taken-found p.slab slots c.self.invariant.taken slot found.place found.at.here

pub put_slot-requires-clause-rising : goal.put_slot-requires-clause-rising
put_slot-requires-clause-rising c =
    let p = c.self.inside in
    let slots = items_of p.slots in
    let slot = c.pending_slot-slot.result in
    let found = c.pending_slot-slot.ensures in
    let new = c.give_in.new.slab in
    let mid = c.take_slot.new.held in
    let change : Nack → Nack = λ n. record { id = n.id; owner = c.args.owner; time = c.args.time; count = c.args.count } in
    let rest = slots_without (nack_at p.slab slot).id p.slab slots in
    AreRising-by mid new rest (indexed-between p.slab new slots p.rooms.items p.held p.slots.room slot found.place c.args.id change c.self.invariant found.at.here found.at.same (λ _. refl) (λ _. (c.requires.time, c.requires.count)) c.give_in.ensures mid c.take_slot.ensures) (nack_at new slot).owner (rising-between p.slab new slots p.rooms.items p.held p.slots.room slot found.place c.args.id change c.self.invariant found.at.here found.at.same (λ _. refl) (λ _. (c.requires.time, c.requires.count)) c.give_in.ensures mid c.take_slot.ensures)

pub put_slot-requires-clause-fresh : goal.put_slot-requires-clause-fresh
put_slot-requires-clause-fresh c =
    let p = c.self.inside in
    let slots = items_of p.slots in
    let slot = c.pending_slot-slot.result in
    let found = c.pending_slot-slot.ensures in
    let new = c.give_in.new.slab in
    let mid = c.take_slot.new.held in
    let change : Nack → Nack = λ n. record { id = n.id; owner = c.args.owner; time = c.args.time; count = c.args.count } in
    let rest = slots_without (nack_at p.slab slot).id p.slab slots in
    has_id-by mid new rest (indexed-between p.slab new slots p.rooms.items p.held p.slots.room slot found.place c.args.id change c.self.invariant found.at.here found.at.same (λ _. refl) (λ _. (c.requires.time, c.requires.count)) c.give_in.ensures mid c.take_slot.ensures) (nack_at new slot).owner (nack_at new slot).id (fresh-between p.slab new slots p.rooms.items p.held p.slots.room slot found.place c.args.id change c.self.invariant found.at.here found.at.same (λ _. refl) (λ _. (c.requires.time, c.requires.count)) c.give_in.ensures mid c.take_slot.ensures)

pub invariant_of-self : goal.invariant_of-self
invariant_of-self c =
    let p = c.self.inside in
    let slots = items_of p.slots in
    let slot = c.pending_slot-slot.result in
    let found = c.pending_slot-slot.ensures in
    let new = c.give_in.new.slab in
    let mid = c.take_slot.new.held in
    let change : Nack → Nack = λ n. record { id = n.id; owner = c.args.owner; time = c.args.time; count = c.args.count } in
    let rooms = p.rooms.items in
    let left = c.use_room.new.rooms.items in
    let now = c.put_slot.new.held in
    let from = (nack_at p.slab slot).owner in
    let to = (nack_at new slot).owner in
    let is : to ≡ c.args.owner = ap (λ o. (nack_or o).owner) c.give_in.ensures.updates.changed in
    let uses : UsesRoom to rooms left = subst (λ (o : List ℕ). UsesRoom o rooms left) (c.name.ensures ∙ sym is) c.use_room.ensures.used in
    let used : rooms_in_all left ≤ rooms_in_all rooms = omega (arith, c.use_room.ensures.in_all) in
    let first : HasSpare mid rooms = HasSpare-given p.held mid from _ rooms c.self.invariant.spared (spare_by p.held from) c.take_slot.ensures (c.self.invariant.spared from) in
    let spared = HasSpare-used mid now to _ rooms first left c.put_slot.ensures uses in
    IsSound-changed p.slab new slots p.rooms.items p.held p.slots.room slot found.place c.args.id change c.self.invariant found.at.here found.at.same (λ _. refl) (λ _. (c.requires.time, c.requires.count)) c.give_in.ensures left now used (indexed-moved p.slab new slots p.rooms.items p.held p.slots.room slot found.place c.args.id change c.self.invariant found.at.here found.at.same (λ _. refl) (λ _. (c.requires.time, c.requires.count)) c.give_in.ensures mid c.take_slot.ensures now c.put_slot.ensures) spared

pub returns-clause-nacks : goal.returns-clause-nacks
returns-clause-nacks c =
    let p = c.self.inside in
    let slots = items_of p.slots in
    let slot = c.pending_slot-slot.result in
    let found = c.pending_slot-slot.ensures in
    let new = c.give_in.new.slab in
    let mid = c.take_slot.new.held in
    let change : Nack → Nack = λ n. record { id = n.id; owner = c.args.owner; time = c.args.time; count = c.args.count } in
    changed-all p.slab new slots p.rooms.items p.held p.slots.room slot found.place c.args.id change c.self.invariant found.at.here found.at.same (λ _. refl) (λ _. (c.requires.time, c.requires.count)) c.give_in.ensures
    ∙ ap (λ (p : PendingState). moved c.args.id c.args.owner c.args.time c.args.count p.nacks) c.self.view_is
