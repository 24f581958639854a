-- What the theorems are said with.
pub mod Runs
pub mod Records
pub mod Files
pub mod Examples
