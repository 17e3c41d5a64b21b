-- What the solver's steps keep: offers, groups, searches and paths of the transportation problem that it has solved
-- so far. Nothing here stands in a public clause, which is of `sr_transport`.

pub mod Limits
pub mod Steps
pub mod Labels
pub mod Cutoff
pub mod Placed
pub mod Groups
pub mod Table
pub mod Sets
pub mod Pairs
pub mod Members
pub mod Taker
pub mod Search
pub mod Offers
pub mod Exits
pub mod Seekers
pub mod Path
pub mod Shortage
pub mod Crowd
pub mod Order
pub mod Progress
pub mod Answered
pub mod ByConsumer
