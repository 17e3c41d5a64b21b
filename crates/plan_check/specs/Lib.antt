-- What the words of a plan and of its snapshot say, and where they were found.

pub mod Words
pub mod Found
