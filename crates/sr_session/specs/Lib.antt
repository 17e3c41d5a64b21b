-- A session's bytes spell requests, and each is answered by what the server replies to it, in their order.

pub mod Desk
pub mod Answered
pub mod Unanswered
pub mod Rounds
pub mod Session
pub mod Whole
pub mod Source
pub mod steps
pub mod Responses
-- what the crates above say most
pub use Rattle.sr_session.specs.Session.{AreAnswered, protocol_text}
pub use Rattle.sr_session.specs.Answered.{code_of}
pub use Rattle.sr_session.specs.Whole.{RunsAs}
