-- What the words of a command line ask for.

pub mod Command
pub mod Numbers
pub mod Options
pub mod Ways
pub mod steps
-- what the crates above say most
pub use Rattle.sr_options.specs.Command.{AsksForNothing, AsksForStdio, AsksToListen}
pub use Rattle.sr_options.specs.Ways.{threads_of}
