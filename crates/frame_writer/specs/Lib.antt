-- What the promises of frame_writer cite, and those of the crates above.
pub mod Encode
pub mod Plain
pub mod Writing
pub mod Responses
