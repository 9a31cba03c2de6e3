-- What the proofs of several functions use.
pub mod Compared
pub mod Rows
pub mod Wordless
