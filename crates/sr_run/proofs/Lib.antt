pub mod ClosedLemmas
pub mod SharedLemmas
pub mod WorkedLemmas
