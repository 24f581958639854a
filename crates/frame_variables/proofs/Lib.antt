-- The laws of attributes and answers that the proofs here and the crates above use.
mod Pairs
pub mod Placing
pub mod Answering
