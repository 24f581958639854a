-- What the proofs of functions use, and those of `theorems_windows`, where the laws stand that only theorems need.
pub mod Settings
