-- What the proofs of several functions use, and those of crates that count letters.
pub mod Counts
