-- The transportation problem without tiers, which is the classic one. A problem with tiers is one of these, with a
-- column for each tier (`by_tier` of `specs/ByTier.antt`); so what is called a consumer here is a tier there.
pub mod Problem
pub mod Assignment
pub mod Certificate
pub mod Solved
