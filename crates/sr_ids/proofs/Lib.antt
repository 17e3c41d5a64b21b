pub mod EndLemmas
pub mod IdLemmas
pub mod ReadingLemmas
pub mod SpecLemmas
pub mod SpellingLemmas
pub mod StartLemmas
pub mod WritingLemmas
