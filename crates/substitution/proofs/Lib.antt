-- What the proofs of several functions use.
mod Works
mod Answers
