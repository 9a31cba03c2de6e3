-- What the proofs of several functions use.
mod Inverts
mod Moves
mod Gathers
