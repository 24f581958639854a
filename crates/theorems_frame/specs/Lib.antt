-- What the theorems say of frames.
pub mod PlainFrame
pub mod Handing
pub mod Tables
pub mod Responding
pub mod Skipping
pub mod Notifying
