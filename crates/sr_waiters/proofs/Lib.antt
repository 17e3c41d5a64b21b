mod CopyLemmas
pub mod ReadLemmas
pub mod IndexLemmas
pub mod QueueLemmas
