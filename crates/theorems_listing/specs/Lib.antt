-- What the theorems are said with.
pub mod Runs
