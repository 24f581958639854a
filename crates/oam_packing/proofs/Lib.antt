-- What the proofs of several functions use. The laws of each part, and those of the whole, are in `theorems_packing`.
pub mod Joining
