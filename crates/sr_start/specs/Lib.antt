-- What the start of the program does with files, addresses and refusals, over any system.

pub mod Fault
pub mod Files
pub mod Listening
pub mod Moment
pub mod Policy
