use Rattle.std.proofs.Common.{◌≡◌, ◌+◌, refl, ap, set, ◌∙◌, arith}
use Rattle.std.proofs.lemmas.Option.{get_or_from_slice_get}
use Rattle.sr_pending.specs.declared.room.Room.{Room}
use Rattle.sr_pending.specs.steps.Room.{IsRoomAt}
use Rattle.sr_pending.proofs.RoomLemmas.{AddsRoom-push, AddsRoom-set, left-le}
use Rattle.sr_pending.proofs.room.add_room.Goals as goal

pub overflow_add-index_mut : goal.overflow_add-index_mut
overflow_add-index_mut c =
    let rooms = c.args.rooms.now.items in
    let at : IsRoomAt c.args.owner.now rooms c.in-Some.place = rw c.as_slice.ensures.value at c.in-Some.ensures.found in
    let read : c.index_mut.result.now ≡ at.room = c.index_mut.ensures.value ∙ get_or_from_slice_get rooms c.in-Some.place at.room c.index_mut.result.now at.here in
    let left = ap (λ (r : Room). r.left) read in
    omega (arith, left, left-le rooms c.in-Some.place at.room at.here)

pub returns-in-Some-clause-ok : goal.returns-in-Some-clause-ok
returns-in-Some-clause-ok c =
    let rooms = c.args.rooms.now.items in
    let at : IsRoomAt c.args.owner.now rooms c.in-Some.place = rw c.as_slice.ensures.value at c.in-Some.ensures.found in
    let read : c.index_mut.result.now ≡ at.room = c.index_mut.ensures.value ∙ get_or_from_slice_get rooms c.in-Some.place at.room c.index_mut.result.now at.here in
    let room = c.index_mut.result.now in
    let more : Room = record { owner = room.owner; left = room.left + c.args.more } in
    AddsRoom-set c.args.owner.now rooms (set rooms c.in-Some.place more) c.in-Some.place at.room at.here at.same more (ap (λ (r : Room). r.owner) read) refl c.args.more (ap (λ (r : Room). r.left + c.args.more) read)

pub returns-in_ok-push-in-None-clause-ok : goal.returns-in_ok-push-in-None-clause-ok
returns-in_ok-push-in-None-clause-ok c =
    let owner = c.in_ok-owner-in-None.owner in
    let pushed : Room = record { owner = owner; left = c.args.more } in
    AddsRoom-push c.args.owner.now c.args.more c.args.rooms.now.items c.push.new.self.items pushed c.in_ok-owner-in-None.ensures refl c.in_ok-push-in-None.ensures.items
