-- The theorems on the windows, and what they rest on (docs/PROMISES.md lists the theorems by file).
pub mod Parts
pub mod Keeping
pub mod Cutting
pub mod Summing
pub mod Holding
pub mod Watching
pub mod Showing
pub mod Plainly
pub mod Examples
