-- What the promises of oam_showing cite.
pub mod Showing
pub mod Parts
pub mod Reading
pub mod Asking
pub mod Storing
pub mod Lines
pub mod Taking
