-- The words of tags, and names after a tag: what the proofs of several functions use, of the walk's too.
pub mod Shapes
pub mod Names
pub mod Shaped
