pub mod Consumers
pub mod Judging
pub mod Listing
pub mod Moving
pub mod Scanning
pub mod Showing
