-- What the proofs of several functions use, and the crate above.
pub mod States
pub mod Meeting
