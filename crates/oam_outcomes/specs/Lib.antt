-- What the promises of oam_outcomes cite.
pub mod Written
pub mod Stepped
