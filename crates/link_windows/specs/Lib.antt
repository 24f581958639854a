-- What the promises of link_windows cite, and those of the crates above.
pub mod Windows
pub mod Watches
pub mod Ranges
