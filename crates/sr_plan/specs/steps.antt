pub mod Dealing
pub mod Judged
pub mod Moves
