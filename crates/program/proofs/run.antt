-- What the proofs of the run use, and the lines of their texts.
mod Starting
mod Reduct
mod Stopping
mod Files
mod Texts
