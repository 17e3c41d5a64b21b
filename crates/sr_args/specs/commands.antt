-- The table of commands, a module each: the row of each in the table, the form of its operands, and what they ask for.
-- Source: Redis documentation, the page of each command.

use Rattle.sr_args.specs.declared.table.CommandName.{CommandName}
use Rattle.sr_args.specs.declared.table.CommandName.TheVariants as commands
use Rattle.sr_args.specs.declared.call.Command.{Command}
use Rattle.sr_args.specs.declared.call.Command.TheVariants as command
use Rattle.sr_args.specs.Form.{Form, Values}
use Rattle.sr_args.specs.Row.{Row}
pub mod Ping
pub mod RecoverBoard
pub mod RecoverPlan
pub mod RecoverRun
pub mod Xack
pub mod Xadd
pub mod Xautoclaim
pub mod Xclaim
pub mod Xdel
pub mod XgroupCreate
pub mod XgroupCreateConsumer
pub mod XgroupDelConsumer
pub mod XgroupDestroy
pub mod XgroupSetId
pub mod XinfoConsumers
pub mod XinfoGroups
pub mod XinfoStream
pub mod Xlen
pub mod Xpending
pub mod Xrange
pub mod Xread
pub mod Xreadgroup
pub mod Xrevrange
pub mod Xtrim
use Rattle.sr_args.specs.commands.Ping as ping
use Rattle.sr_args.specs.commands.Xadd as xadd
use Rattle.sr_args.specs.commands.Xtrim as xtrim
use Rattle.sr_args.specs.commands.Xdel as xdel
use Rattle.sr_args.specs.commands.Xlen as xlen
use Rattle.sr_args.specs.commands.Xrange as xrange
use Rattle.sr_args.specs.commands.Xrevrange as xrevrange
use Rattle.sr_args.specs.commands.Xack as xack
use Rattle.sr_args.specs.commands.XgroupCreate as xgroup_create
use Rattle.sr_args.specs.commands.XgroupSetId as xgroup_set_id
use Rattle.sr_args.specs.commands.XgroupDestroy as xgroup_destroy
use Rattle.sr_args.specs.commands.XgroupCreateConsumer as xgroup_create_consumer
use Rattle.sr_args.specs.commands.XgroupDelConsumer as xgroup_del_consumer
use Rattle.sr_args.specs.commands.XinfoStream as xinfo_stream
use Rattle.sr_args.specs.commands.XinfoGroups as xinfo_groups
use Rattle.sr_args.specs.commands.XinfoConsumers as xinfo_consumers
use Rattle.sr_args.specs.commands.Xautoclaim as xautoclaim
use Rattle.sr_args.specs.commands.Xclaim as xclaim
use Rattle.sr_args.specs.commands.Xpending as xpending
use Rattle.sr_args.specs.commands.Xread as xread
use Rattle.sr_args.specs.commands.Xreadgroup as xreadgroup
use Rattle.sr_args.specs.commands.RecoverPlan as recover_plan
use Rattle.sr_args.specs.commands.RecoverRun as recover_run
use Rattle.sr_args.specs.commands.RecoverBoard as recover_board

-- the name of each command, and how many words it takes
abbrev pub row_of : CommandName → Row
row_of commands.Ping = ping.row
row_of commands.Xadd = xadd.row
row_of commands.Xtrim = xtrim.row
row_of commands.Xdel = xdel.row
row_of commands.Xlen = xlen.row
row_of commands.Xrange = xrange.row
row_of commands.Xrevrange = xrevrange.row
row_of commands.Xack = xack.row
row_of commands.XgroupCreate = xgroup_create.row
row_of commands.XgroupSetId = xgroup_set_id.row
row_of commands.XgroupDestroy = xgroup_destroy.row
row_of commands.XgroupCreateConsumer = xgroup_create_consumer.row
row_of commands.XgroupDelConsumer = xgroup_del_consumer.row
row_of commands.XinfoStream = xinfo_stream.row
row_of commands.XinfoGroups = xinfo_groups.row
row_of commands.XinfoConsumers = xinfo_consumers.row
row_of commands.Xautoclaim = xautoclaim.row
row_of commands.Xclaim = xclaim.row
row_of commands.Xpending = xpending.row
row_of commands.Xread = xread.row
row_of commands.Xreadgroup = xreadgroup.row
row_of commands.RecoverPlan = recover_plan.row
row_of commands.RecoverRun = recover_run.row
row_of commands.RecoverBoard = recover_board.row

-- the form of each command, after its name
abbrev pub form_of : CommandName → Form
form_of commands.Ping = ping.form
form_of commands.Xadd = xadd.form
form_of commands.Xtrim = xtrim.form
form_of commands.Xdel = xdel.form
form_of commands.Xlen = xlen.form
form_of commands.Xrange = xrange.form
form_of commands.Xrevrange = xrevrange.form
form_of commands.Xack = xack.form
form_of commands.XgroupCreate = xgroup_create.form
form_of commands.XgroupSetId = xgroup_set_id.form
form_of commands.XgroupDestroy = xgroup_destroy.form
form_of commands.XgroupCreateConsumer = xgroup_create_consumer.form
form_of commands.XgroupDelConsumer = xgroup_del_consumer.form
form_of commands.XinfoStream = xinfo_stream.form
form_of commands.XinfoGroups = xinfo_groups.form
form_of commands.XinfoConsumers = xinfo_consumers.form
form_of commands.Xautoclaim = xautoclaim.form
form_of commands.Xclaim = xclaim.form
form_of commands.Xpending = xpending.form
form_of commands.Xread = xread.form
form_of commands.Xreadgroup = xreadgroup.form
form_of commands.RecoverPlan = recover_plan.form
form_of commands.RecoverRun = recover_run.form
form_of commands.RecoverBoard = recover_board.form

-- what the values in a command's form ask for
abbrev pub command_of : (command : CommandName) → Values (form_of command) → Command
command_of commands.Ping values = command.Call (ping.call values)
command_of commands.Xadd values = command.Call (xadd.call values)
command_of commands.Xtrim values = command.Call (xtrim.call values)
command_of commands.Xdel values = command.Call (xdel.call values)
command_of commands.Xlen values = command.Call (xlen.call values)
command_of commands.Xrange values = command.Call (xrange.call values)
command_of commands.Xrevrange values = command.Call (xrevrange.call values)
command_of commands.Xack values = command.Call (xack.call values)
command_of commands.XgroupCreate values = command.Call (xgroup_create.call values)
command_of commands.XgroupSetId values = command.Call (xgroup_set_id.call values)
command_of commands.XgroupDestroy values = command.Call (xgroup_destroy.call values)
command_of commands.XgroupCreateConsumer values = command.Call (xgroup_create_consumer.call values)
command_of commands.XgroupDelConsumer values = command.Call (xgroup_del_consumer.call values)
command_of commands.XinfoStream values = command.Call (xinfo_stream.call values)
command_of commands.XinfoGroups values = command.Call (xinfo_groups.call values)
command_of commands.XinfoConsumers values = command.Call (xinfo_consumers.call values)
command_of commands.Xautoclaim values = command.Call (xautoclaim.call values)
command_of commands.Xclaim values = command.Call (xclaim.call values)
command_of commands.Xpending values = command.Call (xpending.call values)
command_of commands.Xread values = command.Call (xread.call values)
command_of commands.Xreadgroup values = command.Call (xreadgroup.call values)
command_of commands.RecoverPlan values = recover_plan.command values
command_of commands.RecoverRun values = recover_run.command values
command_of commands.RecoverBoard values = recover_board.command values
