-- What the promises of frame_tlvs cite, and those of the crates above.
pub mod Walk
pub mod Tlvs
pub mod Marks
pub mod Events
pub mod Counting
