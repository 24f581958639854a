-- What the promises of octets cite, and those of the crates above.
pub mod Octets
pub mod Bits
pub mod Layout
pub mod Tests
pub mod Refusals
