pub mod MovesLemmas
pub mod VerdictLemmas
pub mod ArrayLemmas
pub mod PlanReplyLemmas
pub mod BatchesLemmas
pub mod BestLemmas
