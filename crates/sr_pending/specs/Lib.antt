-- The pending entries of a group are a list by rising id, each with its owner, its moment and its delivery count.

pub mod Pending
pub mod steps
-- what the crates above say most
pub use Rattle.sr_pending.specs.Pending.{AreRising, is_same_name, IsCountable, nack_with}
pub use Rattle.sr_pending.specs.Pending.{owned_by, redelivered, room_left, with_nack}
