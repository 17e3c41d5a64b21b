pub mod Claiming
pub mod Copying
pub mod Reading
pub mod Snapping
pub mod Waiting
