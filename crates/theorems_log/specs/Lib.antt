-- What the theorems are said with.
pub mod Longest
pub mod Positions
pub mod Examples
