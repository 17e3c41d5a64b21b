-- The replies that each connection of an event loop gets are those of the one-thread server to the lines that it
-- sent.

pub mod OneRequest
pub mod Line
pub mod Lines
pub mod Said
pub mod Traffic
pub mod Heard
pub mod steps
