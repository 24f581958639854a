-- The laws of frames and their flags that the crates above use.
pub mod Decoding
pub mod Judging
pub mod Stepping
pub mod FlagLaws
