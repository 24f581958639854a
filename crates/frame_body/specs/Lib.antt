-- What the promises of frame_body cite, and those of the crates above.
pub mod Information
pub mod Variables
pub mod Lists
pub mod Judging
pub mod Counting
