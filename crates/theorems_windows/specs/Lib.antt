-- What the theorems on windows speak of.
pub mod History
pub mod Runs
pub mod Numbers
pub mod Examples
