-- What only private clauses cite: how a reply is read.
pub mod Read
