-- What the theorems on the archive speak of.
pub mod Entries
