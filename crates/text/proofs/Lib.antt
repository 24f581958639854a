-- The laws of text.
pub mod Bounds
pub mod Decimals
pub mod Puts
pub mod Stages
