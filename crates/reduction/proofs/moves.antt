-- What the proofs of several functions use, here and in the crates above.
pub mod Holes
pub mod Contexts
mod Onward
pub mod Sights
pub mod Buffers
pub mod Entries
mod Passes
pub mod Marks
mod Tops
mod Ups
pub mod Seeking
pub mod Redexes
pub mod Wholes
pub mod Places
