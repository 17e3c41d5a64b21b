-- The sockets of an event loop: which connections there are, which of them can be read or written, and whose turn
-- it is.

pub mod Accepting
pub mod Bytes
pub mod Connections
pub mod Slot
pub mod Sockets
pub mod Turns
pub mod steps
