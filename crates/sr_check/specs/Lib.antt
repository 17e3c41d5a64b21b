-- The reply to an answer of a snapshot's problem, and when a reply's bytes prove themselves right.

pub mod PlanAnswer
pub mod PlanReply
pub mod Verified
pub mod steps
-- what the crates above say most
pub use Rattle.sr_check.specs.PlanReply.{id_answer, move_answer, plan_word, price_answer, reached_from, share_answer}
pub use Rattle.sr_check.specs.PlanReply.{verdict_answer}
pub use Rattle.sr_check.specs.PlanAnswer.{AreTold, best, IsShown}
