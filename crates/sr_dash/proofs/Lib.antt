pub mod LineLemmas
pub mod NameLemmas
