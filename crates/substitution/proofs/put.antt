-- What the proofs of several functions use, here and in the crate above.
mod Growths
pub mod Puts
pub mod Turning
