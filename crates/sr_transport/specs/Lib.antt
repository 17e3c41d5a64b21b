-- The assignment problem: each entry goes to a consumer that may take it, no consumer takes more than its room, and
-- the sum of the costs is least; prices prove that it is.

pub mod Sum
pub mod Limits
pub mod Problem
pub mod Assignment
pub mod Certificate
pub mod ByTier
pub mod Solved
pub mod plain
-- what the crates above say most
pub use Rattle.sr_transport.specs.plain.Problem.{consumers, Transport}
pub use Rattle.sr_transport.specs.Problem.{first_in, tier_at, Tiered}
pub use Rattle.sr_transport.specs.Limits.{greatest_charge, greatest_price, most_entries, most_tiers}
pub use Rattle.sr_transport.specs.Sum.{sum_below}
