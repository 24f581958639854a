-- The theorems are in Listings; Pieces has the laws of any input that is taken in pieces, Texts what a line comes to, Calling
-- that a call of `feed` is a call of a run.
pub mod Pieces
pub mod Texts
pub mod Calling
pub mod Listings
