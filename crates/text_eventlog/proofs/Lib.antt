-- The laws of text_eventlog.
pub mod Numbers
pub mod Parted
pub mod Fields
pub mod Turns
pub mod Ranges
