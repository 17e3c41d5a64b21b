use Rattle.std.proofs.Common.{◌+◌, ◌<◌, ◌≤◌, length, get_or, take, sym, subst, arith}
use Rattle.std.proofs.lemmas.List.Sums.{sum_by_more_le_part}
use Rattle.sr_pending.specs.declared.room.Room.{Room}
use Rattle.sr_pending.specs.Pending.{room_left}
use Rattle.sr_pending.specs.steps.Room.{rooms_in_all}
use Rattle.sr_pending.proofs.RoomLemmas.{part, part-le, room_left-more}
use Rattle.sr_pending.proofs.room.room_for.Goals as goal
use Rattle.sr_pending.proofs.room.room_for.Goals.{then-eq, else-eq}

pub overflow_add-all : goal.overflow_add-all
overflow_add-all c =
    let rooms = c.args.rooms.now in
    let owner = c.args.owner.now in
    let i = c.loop-room.room-index in
    let room = c.room-item.result in
    let within : i < length rooms = c.loop-room-test.true in
    let fits : room_left owner (take i rooms) + (get_or rooms i room).left ≤ rooms_in_all rooms = sum_by_more_le_part (part owner) (λ (r : Room). r.left) rooms i room within (part-le owner) in
    let P : Room → Type 0 = λ r. room_left owner (take i rooms) + r.left ≤ rooms_in_all rooms in
    omega (arith, subst P (sym c.room-item.is) fits, c.loop-room.invariant)

pub loop-room-preserved : goal.loop-room-preserved
loop-room-preserved c =
    let rooms = c.args.rooms.now in
    let owner = c.args.owner.now in
    let i = c.loop-room.room-index in
    let room = c.room-item.result in
    let counted = room_left-more owner rooms i room c.loop-room-test.true c.room-item.is c.loop-room.all c.if-eq.all c.eq.result c.loop-room.invariant c.eq.ensures.value in
    elim c.if-eq.branch [
      | then-eq w ↦ counted.0 w.if-eq.true w.all-is
      | else-eq w ↦ counted.1 w.if-eq.false w.all-is
    ]
