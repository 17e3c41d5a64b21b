pub mod GivenLemmas
pub mod GroupsLemmas
pub mod LendingLemmas
pub mod StreamLemmas
