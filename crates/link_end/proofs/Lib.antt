-- The laws of the ranges, which the crates above use too.
pub mod Ranging
-- What the proofs of several functions use.
mod DuesLaws
mod Hears
