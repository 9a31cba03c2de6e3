-- What the proofs of several functions use.
mod Standing
mod Spots
