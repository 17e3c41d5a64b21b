-- What only private clauses cite: a session between two of its steps.
pub mod Asked
pub mod Calling
pub mod Gathered
pub mod Underway
