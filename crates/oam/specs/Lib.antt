-- What the promises of oam cite.
pub mod Lending
pub mod Writing
pub mod Logging
pub mod Machine
pub mod Ticking
