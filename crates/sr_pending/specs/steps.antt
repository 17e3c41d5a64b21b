pub mod Blocks
pub mod OwnedSlots
pub mod Room
pub mod Search
pub mod Slots
pub mod Sound
