use Rattle.std.proofs.Common.{◌≡◌, false, map, ap, refl, sym, ◌∙◌, arith}
use Rattle.sr_pending.specs.steps.Blocks.{items_of}
use Rattle.sr_pending.specs.declared.nack.Nack.{Nack}
use Rattle.sr_pending.specs.Pending.{PendingState, has_id, touched}
use Rattle.sr_pending.proofs.ChangeLemmas.{map-none}
use Rattle.sr_pending.proofs.ListingLemmas.{taken-found}
use Rattle.sr_pending.proofs.SoundLemmas.{IsSound-changed, changed-all, indexed-still}
use Rattle.sr_pending.proofs.pending.Pending.touch.Goals as goal

pub touch_in-requires : goal.touch_in-requires
touch_in-requires c =
    let found = c.in-Some.ensures.found in
    taken-found c.self.inside.slab (items_of c.self.inside.slots) c.self.invariant.taken c.in-Some.slot found.place found.at.here

pub invariant_of-self : goal.invariant_of-self
invariant_of-self c =
    let p = c.self.inside in
    let slots = items_of p.slots in
    let new = c.touch_in.new.slab in
    let found = c.in-Some.ensures.found in
    let change : Nack → Nack = λ n. record { id = n.id; owner = n.owner; time = c.args.time; count = c.args.count } in
    let still = indexed-still p.slab new slots p.rooms.items p.held p.slots.room c.in-Some.slot found.place c.args.id change c.self.invariant found.at.here found.at.same (λ _. refl) (λ _. (c.requires.time, c.requires.count)) c.touch_in.ensures refl in
    IsSound-changed p.slab new slots p.rooms.items p.held p.slots.room c.in-Some.slot found.place c.args.id change c.self.invariant found.at.here found.at.same (λ _. refl) (λ _. (c.requires.time, c.requires.count)) c.touch_in.ensures p.rooms.items p.held (omega arith) still c.self.invariant.spared

pub returns-in-None-clause-nacks : goal.returns-in-None-clause-nacks
returns-in-None-clause-nacks c =
    let shown = ap (λ (p : PendingState). p.nacks) c.self.view_is in
    let change : Nack → Nack = λ n. record { id = n.id; owner = n.owner; time = c.args.time; count = c.args.count } in
    let none : has_id c.args.id c.args.self.now.nacks ≡ false = rw (← shown) c.in-None.ensures.none in
    sym (map-none c.args.id change c.args.self.now.nacks none)

pub returns-in-Some-clause-nacks : goal.returns-in-Some-clause-nacks
returns-in-Some-clause-nacks c =
    let p = c.self.inside in
    let found = c.in-Some.ensures.found in
    let change : Nack → Nack = λ n. record { id = n.id; owner = n.owner; time = c.args.time; count = c.args.count } in
    changed-all p.slab c.touch_in.new.slab (items_of p.slots) p.rooms.items p.held p.slots.room c.in-Some.slot found.place c.args.id change c.self.invariant found.at.here found.at.same (λ _. refl) (λ _. (c.requires.time, c.requires.count)) c.touch_in.ensures
    ∙ ap (λ (p : PendingState). touched c.args.id c.args.time c.args.count p.nacks) c.self.view_is
