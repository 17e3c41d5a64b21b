-- A command is what a request's words mean by the form of the command that they name.

pub mod Blocking
pub mod Command
pub mod Different
pub mod Form
pub mod Name
pub mod Number
pub mod Options
pub mod FormWord
pub mod Position
pub mod Row
pub mod Table
pub mod commands
pub mod steps
-- what the crates above say most
pub use Rattle.sr_args.specs.Command.{Answers, IsCommand, Refuses}
pub use Rattle.sr_args.specs.Different.{AreDifferent, IsAmong}
pub use Rattle.sr_args.specs.Blocking.{block_of, without_block}
