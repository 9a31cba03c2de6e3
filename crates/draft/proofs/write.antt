-- What the proofs of several functions use.
pub mod Shapes
pub mod Opening
pub mod Sizing
pub mod Rooms
pub mod Endings
