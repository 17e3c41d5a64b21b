pub mod AnswerLemmas
pub mod FormLemmas
pub mod FrontLemmas
pub mod ReadLemmas
pub mod RequestLemmas
pub mod SpelledLemmas
