-- What the proofs of several functions use.
mod Listing
mod Wholes
mod Calling
