-- What the promises of link cite, and those of the crates above.
pub mod Outcomes
pub mod Ticks
pub mod Hearing
pub mod Reports
pub mod Requests
