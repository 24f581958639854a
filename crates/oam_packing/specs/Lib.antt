-- What the promises of oam_packing cite: each part of an end in octets and as numbers, then all of them joined, and the watch beside
-- them.
pub mod Parts
pub mod Settings
pub mod Link
pub mod Peers
pub mod Roles
pub mod Meter
pub mod Own
pub mod Watches
pub mod Numbers
pub mod Octets
