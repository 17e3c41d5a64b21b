-- A verdict is a snapshot with a cheapest assignment and its prices, or with entries for which there are too few
-- places.

pub mod Batches
pub mod Calls
pub mod Verdict
pub mod steps
-- what the crates above say most
pub use Rattle.sr_plan.specs.Verdict.{PlanAnswer, best, IsVerdict, Judged, short}
pub use Rattle.sr_plan.specs.Calls.{calls_for, claim_call, claim_calls}
pub use Rattle.sr_plan.specs.Batches.{batches_in, BatchState}
