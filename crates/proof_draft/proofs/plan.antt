-- What the proofs of several functions use.
pub mod Pushing
pub mod Premised
pub mod Ruled
pub mod Planned
pub mod Acting
