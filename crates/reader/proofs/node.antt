-- What the proofs of several functions use.
pub mod Depth
pub mod Node
pub mod Rest
pub mod Turn
