-- What the proofs of several functions use.
mod NameRows
mod TermRows
mod Meets
