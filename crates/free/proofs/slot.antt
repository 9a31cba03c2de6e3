-- What the proofs of several functions use, and the crate above.
pub mod Scanning
mod Halves
pub mod Opening
