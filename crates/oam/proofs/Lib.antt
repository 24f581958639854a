-- What the proofs of several functions use, and what follows from the promises.
pub mod Written
pub mod Stepped
pub mod LentNumbers
mod Arisen
