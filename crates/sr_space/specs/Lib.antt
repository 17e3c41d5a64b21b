-- Keys are a list of names with their streams, and a command leads from keys to keys and a reply.

pub mod Keys
pub mod Touched
pub mod Grouped
pub mod Bounds
pub mod PendingAt
pub mod EntryReply
pub mod commands
pub mod steps
pub mod Effect
pub mod Blocking
pub mod Readers
pub mod Commit
pub mod Snap
-- what the crates above say most
pub use Rattle.sr_space.specs.Blocking.{Called, executed, finds_nothing}
pub use Rattle.sr_space.specs.Effect.{at_once, Executed}
pub use Rattle.sr_space.specs.Keys.{entries_of, group_at, shown_of, stream_at, with_stream}
pub use Rattle.sr_space.specs.Snap.{in_order, listed, shown_with, snapped}
pub use Rattle.sr_space.specs.Readers.{read_at}
pub use Rattle.sr_space.specs.Commit.{after_calls}
