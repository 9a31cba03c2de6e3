-- What the proofs of several functions use, here and in the crates above.
pub mod Names
pub mod Terms
mod Looks
