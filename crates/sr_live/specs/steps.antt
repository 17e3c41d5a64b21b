-- What only private clauses cite.

pub mod Listing
pub mod Misread
