-- What the proofs of several functions use.
mod Shapes
mod Leaves
mod Walking
