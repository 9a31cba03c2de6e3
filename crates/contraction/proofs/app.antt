-- What the proofs of several functions use.
mod Tail
mod Jobs
