-- What only private clauses cite: where a search ends, and rates by place.
pub mod Rows
pub mod Search
