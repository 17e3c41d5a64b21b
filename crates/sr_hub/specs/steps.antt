-- What only private clauses cite: one connection and the book while one of its requests is answered.
pub mod Calls
pub mod Left
pub mod Letters
pub mod Moves
pub mod Serving
pub mod Shelf
pub mod Telling
