-- The laws of the table of widths, of walks and of marks that the crates above use.
pub mod Rows
pub mod Walks
pub mod Marks
pub mod Items
pub mod MarkItems
