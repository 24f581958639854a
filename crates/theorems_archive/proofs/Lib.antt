-- The theorems on the archive.
pub mod Lengths
pub mod Leaving
pub mod Whole
pub mod Kept
pub mod Shown
pub mod Notifying
