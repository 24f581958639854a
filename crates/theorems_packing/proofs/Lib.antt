-- The theorems are in Packing; each part of an end, and the watch, has its laws in a file of its own, Parting and Fielding those of
-- any parts, Storing what a store leaves.
pub mod Bits
pub mod Parting
pub mod Storing
pub mod Fielding
pub mod SettingsLaws
pub mod LinkLaws
pub mod PeerLaws
pub mod RoleLaws
pub mod MeterLaws
pub mod OwnLaws
pub mod WatchLaws
pub mod Packing
