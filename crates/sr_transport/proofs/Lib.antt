pub mod LoopLemmas
pub mod SumLemmas
pub mod PlainLimitLemmas
pub mod PlainLemmas
pub mod TierLemmas
pub mod ByTierLemmas
pub mod GivenLemmas
pub mod CallerLemmas
