-- What the proofs of several functions use.
mod Staying
mod Jobs
mod Answers
