pub mod ClosingLemmas
pub mod HeldLemmas
pub mod LetterLemmas
pub mod SkipLemmas
