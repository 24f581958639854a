-- The theorems are in Safety, Witness, Examples and Reaching; the others lead to Safety.
pub mod Lists
pub mod Peers
pub mod Looping
pub mod Frames
pub mod Invariant
pub mod Limit
pub mod Steps
pub mod Safety
pub mod Witness
pub mod Examples
pub mod Reaching
