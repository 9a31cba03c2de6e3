-- What the proofs of several functions use.
pub mod Named
pub mod Further
mod Ones
