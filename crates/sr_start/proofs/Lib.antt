pub mod ListenLemmas
pub mod SeatLemmas
pub mod ServeLemmas
