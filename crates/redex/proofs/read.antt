-- What the proofs of several functions use.
mod Rest
mod Whole
