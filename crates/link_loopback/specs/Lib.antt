-- What the promises of link_loopback cite, and those of the crates above.
pub mod Roles
pub mod Loopback
