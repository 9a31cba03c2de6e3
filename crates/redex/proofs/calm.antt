-- What the proofs of walks that look for redexes use.
mod Quiet
pub mod Sweeping
