-- The parts of another server's replies, and the bytes of the requests to it.

pub mod Arriving
pub mod Exchange
pub mod Reply
pub mod Shown
pub mod Spelled
pub mod steps
-- what the crates above say most
pub use Rattle.sr_peer.specs.Reply.{Array, Bulk, Int, Part, part_text, request_text}
pub use Rattle.sr_peer.specs.Shown.{part_of}
