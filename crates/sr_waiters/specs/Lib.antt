-- The reads that wait are a list in the order in which they blocked.

pub mod Calls
pub mod Copying
pub mod Index
pub mod Layout
pub mod Queue
pub mod Waiters
-- what the crates above say most
pub use Rattle.sr_waiters.specs.Waiters.{AreOnce, asks, due_at, first_that, has_session, is_due, not_due_at}
pub use Rattle.sr_waiters.specs.Waiters.{session_of, Waiting, without_session}
