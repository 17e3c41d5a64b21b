use Rattle.sr_args.proofs.table.read_operands.Goals as goal

pub returns-in-Ping : goal.returns-in-Ping
returns-in-Ping c = rw c.in-Ping.is (c.asked.ensures _ _ c.args.operands c.read_ping.ensures)

pub returns-in-Xadd : goal.returns-in-Xadd
returns-in-Xadd c = rw c.in-Xadd.is (c.asked-in-Xadd.ensures _ _ c.args.operands c.read_xadd.ensures)

pub returns-in-Xtrim : goal.returns-in-Xtrim
returns-in-Xtrim c = rw c.in-Xtrim.is (c.asked-in-Xtrim.ensures _ _ c.args.operands c.read_xtrim.ensures)

pub returns-in-Xdel : goal.returns-in-Xdel
returns-in-Xdel c = rw c.in-Xdel.is (c.asked-in-Xdel.ensures _ _ c.args.operands c.read_xdel.ensures)

pub returns-in-Xlen : goal.returns-in-Xlen
returns-in-Xlen c = rw c.in-Xlen.is (c.asked-in-Xlen.ensures _ _ c.args.operands c.read_xlen.ensures)

pub returns-in-Xrange : goal.returns-in-Xrange
returns-in-Xrange c = rw c.in-Xrange.is (c.asked-in-Xrange.ensures _ _ c.args.operands c.read_xrange.ensures)

pub returns-in-Xrevrange : goal.returns-in-Xrevrange
returns-in-Xrevrange c = rw c.in-Xrevrange.is (c.asked-in-Xrevrange.ensures _ _ c.args.operands c.read_xrevrange.ensures)

pub returns-in-Xack : goal.returns-in-Xack
returns-in-Xack c = rw c.in-Xack.is (c.asked-in-Xack.ensures _ _ c.args.operands c.read_xack.ensures)

pub returns-in-XgroupCreate : goal.returns-in-XgroupCreate
returns-in-XgroupCreate c = rw c.in-XgroupCreate.is (c.asked-in-XgroupCreate.ensures _ _ c.args.operands c.read_xgroup_create.ensures)

pub returns-in-XgroupSetId : goal.returns-in-XgroupSetId
returns-in-XgroupSetId c = rw c.in-XgroupSetId.is (c.asked-in-XgroupSetId.ensures _ _ c.args.operands c.read_xgroup_set_id.ensures)

pub returns-in-XgroupDestroy : goal.returns-in-XgroupDestroy
returns-in-XgroupDestroy c = rw c.in-XgroupDestroy.is (c.asked-in-XgroupDestroy.ensures _ _ c.args.operands c.read_xgroup_destroy.ensures)

pub returns-in-XgroupCreateConsumer : goal.returns-in-XgroupCreateConsumer
returns-in-XgroupCreateConsumer c = rw c.in-XgroupCreateConsumer.is (c.asked-in-XgroupCreateConsumer.ensures _ _ c.args.operands c.read_xgroup_create_consumer.ensures)

pub returns-in-XgroupDelConsumer : goal.returns-in-XgroupDelConsumer
returns-in-XgroupDelConsumer c = rw c.in-XgroupDelConsumer.is (c.asked-in-XgroupDelConsumer.ensures _ _ c.args.operands c.read_xgroup_del_consumer.ensures)

pub returns-in-XinfoStream : goal.returns-in-XinfoStream
returns-in-XinfoStream c = rw c.in-XinfoStream.is (c.asked-in-XinfoStream.ensures _ _ c.args.operands c.read_xinfo_stream.ensures)

pub returns-in-XinfoGroups : goal.returns-in-XinfoGroups
returns-in-XinfoGroups c = rw c.in-XinfoGroups.is (c.asked-in-XinfoGroups.ensures _ _ c.args.operands c.read_xinfo_groups.ensures)

pub returns-in-XinfoConsumers : goal.returns-in-XinfoConsumers
returns-in-XinfoConsumers c = rw c.in-XinfoConsumers.is (c.asked-in-XinfoConsumers.ensures _ _ c.args.operands c.read_xinfo_consumers.ensures)

pub returns-in-Xautoclaim : goal.returns-in-Xautoclaim
returns-in-Xautoclaim c = rw c.in-Xautoclaim.is (c.asked-in-Xautoclaim.ensures _ _ c.args.operands c.read_xautoclaim.ensures)

pub returns-in-Xclaim : goal.returns-in-Xclaim
returns-in-Xclaim c = rw c.in-Xclaim.is (c.asked-in-Xclaim.ensures _ _ c.args.operands c.read_xclaim.ensures)

pub returns-in-Xpending : goal.returns-in-Xpending
returns-in-Xpending c = rw c.in-Xpending.is (c.asked-in-Xpending.ensures _ _ c.args.operands c.read_xpending.ensures)

pub returns-in-Xread : goal.returns-in-Xread
returns-in-Xread c = rw c.in-Xread.is (c.asked-in-Xread.ensures _ _ c.args.operands c.read_xread.ensures)

pub returns-in-Xreadgroup : goal.returns-in-Xreadgroup
returns-in-Xreadgroup c = rw c.in-Xreadgroup.is (c.asked-in-Xreadgroup.ensures _ _ c.args.operands c.read_xreadgroup.ensures)

pub returns-in-RecoverPlan : goal.returns-in-RecoverPlan
returns-in-RecoverPlan c = rw c.in-RecoverPlan.is c.read_recover_plan.ensures

pub returns-in-RecoverRun : goal.returns-in-RecoverRun
returns-in-RecoverRun c = rw c.in-RecoverRun.is c.read_recover_run.ensures

pub returns-in-RecoverBoard : goal.returns-in-RecoverBoard
returns-in-RecoverBoard c = rw c.in-RecoverBoard.is c.read_recover_board.ensures
