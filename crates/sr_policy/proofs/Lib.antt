pub mod FileLemmas
pub mod NameLemmas
pub mod PolicyLemmas
pub mod ProblemLemmas
