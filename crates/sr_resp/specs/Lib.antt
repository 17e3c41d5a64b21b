-- A reply is the list of its parts in the order in which they are sent; a stream of bytes holds requests, each a
-- list of words.

pub mod Code
pub mod Equality
pub mod Numbers
pub mod Reading
pub mod Reply
pub mod Request
pub mod Scanning
pub mod Spelled
pub mod Stages
pub mod Stream
pub mod steps
-- what the crates above say most
pub use Rattle.sr_resp.specs.Reply.{ReplyParts, array_header, array_of, Bulk, bulk_string, error_reply, integer}
pub use Rattle.sr_resp.specs.Reply.{reply_text}
pub use Rattle.sr_resp.specs.Request.{Words}
pub use Rattle.sr_resp.specs.Stream.{Progress}
