-- What the promises of frame_variables cite, and those of the crates above.
pub mod Descriptors
pub mod Attributes
pub mod Answers
