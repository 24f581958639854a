-- What the promises of text_eventlog cite.
pub mod Digits
pub mod Line
pub mod Logging
