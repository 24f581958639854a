-- The laws of discovery that the crates above use.
pub mod Resting
