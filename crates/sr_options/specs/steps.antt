-- What only private clauses cite: the numbers as they are read, and what clap is told of the options.
pub mod Read
pub mod Server
