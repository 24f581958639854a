-- What the promises of text_captures cite. Captures says what the listing of a capture file is; Feeding how the code comes to
-- it.
pub mod Captures
pub mod Feeding
