-- TLVs of any kind, both ways, then each kind of them and the header.
mod Marking
pub mod Informing
mod Eventing
mod Heading
-- The theorems on whole frames.
pub mod Sizes
pub mod RoundTrip
pub mod Fitting
pub mod Handing
pub mod Responding
pub mod Skipping
pub mod Notifying
