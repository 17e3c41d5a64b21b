-- What is read of a group of another Redis, and what the rounds of a recovery there conclude.

pub mod Bounds
pub mod Conclusion
pub mod Dead
pub mod First
pub mod Looked
pub mod Looking
pub mod Near
pub mod Reading
pub mod Rounds
pub mod Said
pub mod Server
pub mod Spare
pub mod Stars
pub mod Words
pub mod steps
