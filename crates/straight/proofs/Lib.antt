-- What the proofs of several functions use.
mod StraightRows
mod Nodes
mod Calling
