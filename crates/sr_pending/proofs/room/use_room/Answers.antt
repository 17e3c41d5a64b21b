use Rattle.std.proofs.Common.{◌≡◌, ℕ, ◌-◌, ◌<◌, refl, ap, set, subst, sym, ◌∙◌, arith}
use Rattle.std.proofs.lemmas.Option.{get_or_from_slice_get, slice_get_within}
use Rattle.sr_pending.specs.declared.room.Room.{Room}
use Rattle.sr_pending.specs.steps.Room.{IsRoomAt}
use Rattle.sr_pending.proofs.RoomLemmas.{UsesRoom-remove, UsesRoom-set, rooms_in_all-remove, rooms_in_all-set}
use Rattle.sr_pending.proofs.room.use_room.Goals as goal

pub index-requires : goal.index-requires
index-requires c =
    let found = c.in-Some.ensures.found in
    subst (λ (n : ℕ). c.in-Some.place < n) c.as_slice.ensures.len (slice_get_within c.as_slice.result.now c.in-Some.place found.room found.here)

pub remove-requires : goal.remove-requires
remove-requires c =
    let found = c.in-Some.ensures.found in
    subst (λ (n : ℕ). c.in-Some.place < n) c.as_slice.ensures.len (slice_get_within c.as_slice.result.now c.in-Some.place found.room found.here)

pub index_mut-requires : goal.index_mut-requires
index_mut-requires c =
    let found = c.in-Some.ensures.found in
    subst (λ (n : ℕ). c.in-Some.place < n) c.as_slice.ensures.len (slice_get_within c.as_slice.result.now c.in-Some.place found.room found.here)

pub overflow_sub-index_mut : goal.overflow_sub-index_mut
overflow_sub-index_mut c =
    let rooms = c.args.rooms.now.items in
    let at : IsRoomAt c.args.owner.now rooms c.in-Some.place = rw c.as_slice.ensures.value at c.in-Some.ensures.found in
    let room = c.index_mut.result.now in
    let read : room ≡ at.room = c.index_mut.ensures.value ∙ get_or_from_slice_get rooms c.in-Some.place at.room room at.here in
    omega (arith, ap (λ (r : Room). r.left) read, at.some)

pub returns-then-index-eq1-clause-in_all : goal.returns-then-index-eq1-clause-in_all
returns-then-index-eq1-clause-in_all c =
    let rooms = c.args.rooms.now.items in
    let at : IsRoomAt c.args.owner.now rooms c.in-Some.place = rw c.as_slice.ensures.value at c.in-Some.ensures.found in
    let read : c.index.result.now ≡ at.room = c.index.ensures ∙ get_or_from_slice_get rooms c.in-Some.place at.room c.index.result.now at.here in
    let one : at.room.left ≡ 1 = sym (ap (λ (r : Room). r.left) read) ∙ c.if-index-eq1.true in
    rooms_in_all-remove c.args.owner.now rooms c.remove.new.self.items c.in-Some.place at.room at.here at.same one c.remove.ensures.items

pub returns-then-index-eq1-clause-used : goal.returns-then-index-eq1-clause-used
returns-then-index-eq1-clause-used c =
    let rooms = c.args.rooms.now.items in
    let at : IsRoomAt c.args.owner.now rooms c.in-Some.place = rw c.as_slice.ensures.value at c.in-Some.ensures.found in
    let read : c.index.result.now ≡ at.room = c.index.ensures ∙ get_or_from_slice_get rooms c.in-Some.place at.room c.index.result.now at.here in
    let one : at.room.left ≡ 1 = sym (ap (λ (r : Room). r.left) read) ∙ c.if-index-eq1.true in
    UsesRoom-remove c.args.owner.now rooms c.remove.new.self.items c.in-Some.place at.room at.here at.same one c.remove.ensures.items

pub returns-else-index-eq1-clause-used : goal.returns-else-index-eq1-clause-used
returns-else-index-eq1-clause-used c =
    let rooms = c.args.rooms.now.items in
    let at : IsRoomAt c.args.owner.now rooms c.in-Some.place = rw c.as_slice.ensures.value at c.in-Some.ensures.found in
    let room = c.index_mut.result.now in
    let read : room ≡ at.room = c.index_mut.ensures.value ∙ get_or_from_slice_get rooms c.in-Some.place at.room room at.here in
    let less : Room = record { owner = room.owner; left = room.left - 1 } in
    let left = ap (λ (r : Room). r.left) read in
    UsesRoom-set c.args.owner.now rooms (set rooms c.in-Some.place less) c.in-Some.place at.room at.here at.same less (ap (λ (r : Room). r.owner) read) refl (omega (arith, left, at.some))

pub returns-else-index-eq1-clause-in_all : goal.returns-else-index-eq1-clause-in_all
returns-else-index-eq1-clause-in_all c =
    let rooms = c.args.rooms.now.items in
    let at : IsRoomAt c.args.owner.now rooms c.in-Some.place = rw c.as_slice.ensures.value at c.in-Some.ensures.found in
    let room = c.index_mut.result.now in
    let read : room ≡ at.room = c.index_mut.ensures.value ∙ get_or_from_slice_get rooms c.in-Some.place at.room room at.here in
    let less : Room = record { owner = room.owner; left = room.left - 1 } in
    let left = ap (λ (r : Room). r.left) read in
    rooms_in_all-set c.args.owner.now rooms (set rooms c.in-Some.place less) c.in-Some.place at.room at.here at.same less (ap (λ (r : Room). r.owner) read) refl (omega (arith, left, at.some))
