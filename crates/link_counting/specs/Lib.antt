-- What the promises of link_counting cite, and those of the crates above.
pub mod Counting
