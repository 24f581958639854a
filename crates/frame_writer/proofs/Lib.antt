-- What is said of the octets that are written, of events lent as numbers, and of the answers to descriptors.
pub mod Lengths
pub mod Sevens
pub mod Answering
-- Walks over parts of any kind, both ways, and descriptors and containers.
pub mod Walking
pub mod Containing
-- What the proofs of several functions use, and what is needed of an output.
mod Stores
pub mod Writers
