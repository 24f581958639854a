-- What the theorems are said with; the entries of the archive cite Machine too.
pub mod Machine
pub mod Intervals
pub mod Seconds
pub mod Runs
pub mod Premises
pub mod Moving
pub mod Ordering
pub mod Showing
