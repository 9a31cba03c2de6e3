-- What the proofs of several functions use.
mod Above
mod Whole
