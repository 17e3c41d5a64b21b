use Rattle.std.proofs.Common.{◌≡◌, ◌*◌, length, refl, arith}
use Rattle.std.proofs.lemmas.List.{with_items_is}
use Rattle.sr_solver.proofs.GroupLemmas.{lows_come}
use Rattle.sr_solver.proofs.TableLemmas.{table_arrived}
use Rattle.sr_solver.proofs.MembersLemmas.{row_of, room_for_one, members_come, members_written}
use Rattle.sr_solver.proofs.table.bring_in.Goals as goal

pub add-requires-clause-room : goal.add-requires-clause-room
add-requires-clause-room c =
    let row =
    row_of c.args.problem.now c.args.placement.now.width _ _ c.args.placement.now.members.items c.args.to
    (c.args.to * c.args.placement.now.width) c.requires.limits c.requires.members c.requires.allowed.0 refl in
    let one =
    room_for_one c.args.problem.now c.args.placement.now.width c.args.placement.now.assign.items c.args.entry c.args.to
    c.requires.every c.requires.entry c.requires.allowed.0 c.requires.wide c.requires.room in
    rw c.deref_mut.ensures.value (omega (arith, row.count, row.room, one.0, one.1))

pub returns-clause-members : goal.returns-clause-members
returns-clause-members c =
    let come =
    members_come c.args.problem.now c.args.placement.now.width c.args.placement.now.assign.items c.args.entry c.args.to
    (c.args.to * c.args.placement.now.width) _ c.args.placement.now.members.items c.requires.every c.requires.entry
    c.requires.allowed.0 c.requires.wide c.requires.room c.requires.members refl refl in
    let brought = rw (← c.deref_mut.ensures.value, ← c.add.ensures) at come in
    let all : length c.add.new.members ≡ c.args.placement.now.members.len =
    omega (arith, brought.one_each, c.requires.members.one_each) in
    members_written _ _ _ _ _ c.add.new.members _ all brought

pub returns-clause-table : goal.returns-clause-table
returns-clause-table c =
    let pairs =
    table_arrived c.args.problem.now c.args.placement.now.assign.items c.args.entry c.args.to
    c.args.table.now.pairs.items c.arrive.new.pairs c.requires.limits c.requires.every c.requires.entry
    c.requires.allowed.0 c.requires.table.pairs (rw c.deref_mut-2.ensures.value at c.arrive.ensures) in
    let lows =
    lows_come c.args.problem.now c.args.placement.now.assign.items c.args.entry c.args.to c.args.table.now.groups
    c.args.table.now.lows.items c.join_group.new.lows c.requires.every c.requires.entry c.requires.table.lows
    (rw c.deref_mut-3.ensures.value at c.join_group.ensures) in
    record {
      pairs = rw (with_items_is c.args.table.now.pairs c.arrive.new.pairs
          (omega (arith, pairs.each_pair, c.requires.table.pairs.each_pair))) pairs;
      lows = rw (with_items_is c.args.table.now.lows c.join_group.new.lows
          (omega (arith, lows.each_group, c.requires.table.lows.each_group))) lows;
    }
