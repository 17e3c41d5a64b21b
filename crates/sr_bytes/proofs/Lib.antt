pub mod DecimalLemmas
pub mod PackedLemmas
pub mod WordsLemmas
