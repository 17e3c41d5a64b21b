-- A stream is its entries, its last id, how many entries were ever added, and its groups in byte order of their
-- names.

pub mod Groups
pub mod Stream
pub mod Given
pub mod Lending
pub mod LendingNamed
pub mod steps
-- what the crates above say most
pub use Rattle.sr_stream.specs.Stream.{empty_stream, IsStream, KeptStream, StreamState, with_groups}
pub use Rattle.sr_stream.specs.Groups.{ByName, group_with, has_group, with_group}
pub use Rattle.sr_stream.specs.Given.{given_id}
