-- A policy is consumers with their rooms and classes of entries with their rates; a snapshot is the entries that
-- the dead leave and the consumers that live, and its problem is the assignment problem of these.

pub mod Bounds
pub mod Rules
pub mod Policy
pub mod File
pub mod Snapshot
pub mod Problem
pub mod Same
pub mod steps
-- what the crates above say most
pub use Rattle.sr_policy.specs.Snapshot.{AreInOrder, is_among, SnapshotState}
pub use Rattle.sr_policy.specs.Rules.{consumers_of, live_of, Text}
pub use Rattle.sr_policy.specs.Problem.{problem_of, room_at, tier_count}
pub use Rattle.sr_policy.specs.Same.{same}
