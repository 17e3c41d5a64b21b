use Rattle.std.proofs.Common.{◌/◌, ◌<◌, ◌∙◌, arith}
use Rattle.sr_transport.specs.{consumers}
use Rattle.sr_solver.proofs.GroupLemmas.{row_fits, group_below}
use Rattle.sr_solver.proofs.groups.join_group.Goals as goal

pub lower-requires-clause-place : goal.lower-requires-clause-place
lower-requires-clause-place c =
    let p = c.args.problem.now in
    let next : c.loop-next.next < consumers p =
    rw c.costs-there-items.ensures.each_consumer at c.loop-next-test.true in
    let group : c.args.entry / 64 < c.args.groups.count =
    group_below p c.args.groups c.args.entry c.requires.groups c.requires.entry in
    let row =
    row_fits p c.args.groups c.args.to c.loop-next.next c.row_of-row.result c.loop-next.lows c.requires.limits
    c.requires.groups (c.loop-next.invariant.each_group ∙ c.requires.each_group) c.requires.allowed.0
    (omega (arith, c.if-room-le-NARROW.false, c.room.ensures)) next c.row_of-row.ensures in
    omega (arith, row.within, group)
