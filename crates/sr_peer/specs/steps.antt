-- What only private clauses, an invariant and a ghost field cite: how the code reads a reply.
pub mod Lines
pub mod OneSpelling
pub mod Reading
