-- What the promises of listing_program cite.
pub mod Listed
