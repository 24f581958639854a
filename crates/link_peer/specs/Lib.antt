-- What the promises of link_peer cite, and those of the crates above.
pub mod Ranges
pub mod Peers
