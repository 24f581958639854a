-- What the promises of frame cite, and those of the crates above.
pub mod Flags
pub mod Frame
pub mod Judgement
pub mod Reader
pub mod Steps
