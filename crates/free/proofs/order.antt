-- What the proofs of several functions use.
mod Orders
mod Comparing
