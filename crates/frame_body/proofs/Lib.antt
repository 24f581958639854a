-- The laws of bodies and their walks that the crates above use.
pub mod Judging
pub mod Wholes
pub mod Strides
pub mod Places
mod Skips
mod Items
