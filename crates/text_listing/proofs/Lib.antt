-- The laws of the listing that its code needs; its theorems are in the crate theorems_listing.
pub mod Entries
pub mod Lengths
pub mod Digits
pub mod Keeping
pub mod Leading
pub mod Standing
pub mod Beginning
pub mod Finishing
