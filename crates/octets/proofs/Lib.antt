-- The laws of numbers, stores and tests that the crates above use.
pub mod Bools
pub mod Numbers
pub mod Masks
pub mod Stores
