-- What the theorems are said with: System has the two ends and the link, Safe the demand, Examples the paper's table.
pub mod Lists
pub mod System
pub mod Safe
pub mod Examples
