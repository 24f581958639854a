-- What the promises of link_limit cite, and those of the crates above.
pub mod Limit
pub mod Owing
pub mod Tests
