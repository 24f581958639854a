-- What the promises of link_discovery cite, and those of the crates above; Moves lists the paper's moves.
pub mod Standing
pub mod Moves
pub mod Sending
