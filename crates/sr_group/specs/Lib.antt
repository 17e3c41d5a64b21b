-- A consumer group is its last delivered id, its consumers in byte order, and its pending entries.

pub mod Group
pub mod Delivery
pub mod Claim
pub mod Shown
pub mod steps
-- what the crates above say most
pub use Rattle.sr_group.specs.Group.{counts_of, GroupState, KeptGroup, new_group}
pub use Rattle.sr_group.specs.Shown.{after_showing, HasRoomFor, listed_of}
pub use Rattle.sr_group.specs.Delivery.{history_of, new_entries}
pub use Rattle.sr_group.specs.Claim.{after_moves}
