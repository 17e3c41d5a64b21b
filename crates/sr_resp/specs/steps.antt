-- What only private clauses and ghost fields cite: how the code holds a reply.
pub mod Bytes
pub mod Decoding
pub mod Forms
pub mod OneSpelling
pub mod Pieces
