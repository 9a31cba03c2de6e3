-- What the proofs of several functions use, here and in the crates above.
pub mod Bytes
pub mod Views
pub mod Rows
pub mod Passing
pub mod Ways
pub mod Owns
pub mod Tops
pub mod Split
pub mod Faults
