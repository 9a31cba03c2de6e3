-- What the proofs of several functions use.
mod Taking
mod Calling
