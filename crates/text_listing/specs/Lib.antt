-- What the promises of text_listing cite. Rows, Lines and Listing say what the listing of an input is; Taking and Feeding how the
-- code comes to it.
pub mod Rows
pub mod Lines
pub mod Listing
pub mod Taking
pub mod Feeding
