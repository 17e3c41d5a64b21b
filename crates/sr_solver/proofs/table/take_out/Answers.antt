use Rattle.std.proofs.Common.{◌<◌, ◌≡◌, length, sym, arith}
use Rattle.std.proofs.lemmas.List.{get_or_read_under, with_items_is}
use Rattle.sr_transport.specs.{consumers}
use Rattle.sr_solver.specs.Groups.{IsAt}
use Rattle.sr_solver.proofs.GroupLemmas.{lows_fewer}
use Rattle.sr_solver.proofs.TableLemmas.{table_left, table_waiting}
use Rattle.sr_solver.proofs.MembersLemmas.{row_in, members_left, members_waiting, members_written}
use Rattle.sr_solver.proofs.table.take_out.Goals as goal

pub returns-then-consumers-from-clause-members : goal.returns-then-consumers-from-clause-members
returns-then-consumers-from-clause-members c =
    let stands = get_or_read_under _ _ _ _ 0 c.index-from.ensures c.requires.entry (sym c.requires.every) in
    members_waiting c.args.problem.now c.args.placement.now.width c.args.placement.now.assign.items c.args.entry
    c.args.placement.now.members.items c.requires.every c.requires.entry
    (omega (arith, stands, c.if-consumers-from.true, c.consumers.ensures.count)) c.requires.members

pub returns-then-consumers-from-clause-table : goal.returns-then-consumers-from-clause-table
returns-then-consumers-from-clause-table c =
    let stands = get_or_read_under _ _ _ _ 0 c.index-from.ensures c.requires.entry (sym c.requires.every) in
    record {
      pairs = table_waiting c.args.problem.now c.args.placement.now.assign.items c.args.entry
          c.args.table.now.pairs.items c.requires.table.pairs
          (omega (arith, stands, c.if-consumers-from.true, c.consumers.ensures.count));
      lows = lows_fewer c.args.problem.now (IsAt c.args.placement.now.assign.items c.args.problem.now.entries) _
          c.args.table.now.groups c.args.table.now.lows.items (λ a i here. here.0) c.requires.table.lows;
    }

pub remove-requires-clause-room : goal.remove-requires-clause-room
remove-requires-clause-room c =
    let row =
    row_in c.args.problem.now c.args.placement.now.width c.index-from.result.now _ _ c.deref_mut.result.now
    c.requires.limits c.deref_mut.ensures.value c.requires.members
    (omega (arith, c.if-consumers-from.false, c.consumers.ensures.count)) in
    omega (arith, row.count, row.fits, row.room)

pub remove-requires-clause-member : goal.remove-requires-clause-member
remove-requires-clause-member c =
    let stands = get_or_read_under _ _ _ _ 0 c.index-from.ensures c.requires.entry (sym c.requires.every) in
    let within : c.index-from.result.now < consumers c.args.problem.now =
    omega (arith, c.if-consumers-from.false, c.consumers.ensures.count) in
    rw (c.deref_mut.ensures.value, c.requires.members.counted _ within)
    (c.requires.members.each _ c.args.entry within (c.requires.entry, sym stands))

pub returns-clause-members : goal.returns-clause-members
returns-clause-members c =
    let stands = get_or_read_under _ _ _ _ 0 c.index-from.ensures c.requires.entry (sym c.requires.every) in
    let all : length c.remove.new.members ≡ c.args.placement.now.members.len =
    omega (arith, c.remove.ensures.one_each, c.deref_mut.ensures.len) in
    members_written _ _ _ _ _ c.remove.new.members _ all (
    members_left c.args.problem.now c.args.placement.now.width c.args.placement.now.assign.items c.args.entry
    c.args.placement.now.members.items c.remove.new.members c.requires.every c.requires.entry
    (omega (arith, stands, c.if-consumers-from.false, c.consumers.ensures.count)) c.requires.members
    (rw (c.deref_mut.ensures.value, stands) at c.remove.ensures)
    )

pub returns-clause-table : goal.returns-clause-table
returns-clause-table c =
    let stands = get_or_read_under _ _ _ _ 0 c.index-from.ensures c.requires.entry (sym c.requires.every) in
    let left =
    table_left c.args.problem.now c.args.placement.now.assign.items c.args.entry c.args.table.now.pairs.items
    c.leave.new.pairs c.requires.limits c.requires.table.pairs
    (rw (c.deref_mut-2.ensures.value, stands) at c.leave.ensures) in
    record {
      pairs = rw (with_items_is c.args.table.now.pairs c.leave.new.pairs
          (omega (arith, left.each_pair, c.requires.table.pairs.each_pair))) left;
      lows = lows_fewer c.args.problem.now (IsAt c.args.placement.now.assign.items c.args.problem.now.entries) _
          c.args.table.now.groups c.args.table.now.lows.items (λ a i here. here.0) c.requires.table.lows;
    }
