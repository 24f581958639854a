-- What the promises of text cite; Pieces is for the crates above that take an input in pieces.
pub mod Marks
pub mod Decimal
pub mod Put
pub mod Pieces
