-- What the proofs of several functions use, and the crates above.
mod Extents
pub mod Rows
