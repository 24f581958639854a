-- What the promises of link_end cite, and those of the crates above.
pub mod Parts
pub mod Sending
pub mod Ticking
pub mod Reporting
pub mod Hearing
pub mod Taking
pub mod Granting
pub mod Ranges
