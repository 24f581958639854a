-- The theorems are in Lines; Digits has the two ways between a number and its digits, Tabbed those between a text and its fields,
-- Values how large the values of a line are. Positions has what builds with different last positions read.
pub mod Digits
pub mod Tabbed
pub mod Values
pub mod Lines
pub mod Positions
