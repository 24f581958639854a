-- The theorems are in Listings (a run of calls), Records (18 and 16), Files (written files, in either byte order) and Table (small
-- files, computed); Numbers and Sayings have the laws below them, Calling that a call of `feed` is a call of a run.
pub mod Numbers
pub mod Sayings
pub mod Calling
pub mod Listings
pub mod Records
pub mod Files
pub mod Table
