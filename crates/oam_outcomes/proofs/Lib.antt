-- What the proofs use.
pub mod Small
