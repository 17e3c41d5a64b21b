-- A server's history is a list of records, each of which leads from one state of the server to the next by its
-- rules.

pub mod Concluded
pub mod Kept
pub mod Layout
pub mod Records
pub mod Recovered
pub mod Sent
pub mod Server
pub mod Settled
pub mod Taken
pub mod Watched
-- what the crates above say most
pub use Rattle.sr_book.specs.Records.{BookState, IsHistory, IsStepped, letter_for, next_index, next_moment, Recorded}
pub use Rattle.sr_book.specs.Server.{Given, is_open, letter_of}
