-- A book behind a lock, whose receipts and letters prove at the close that one history led to all of them.

pub mod Shared
pub mod Closed
pub mod Desk
pub mod Worked
pub mod Crews
