-- What the proofs of several functions use, and what follows from the promises.
pub mod Untouched
pub mod Moving
pub mod Stored
pub mod Cursors
mod Triples
pub mod Taking
pub mod ReadAll
mod Asked
