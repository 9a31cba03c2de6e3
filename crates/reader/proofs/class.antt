-- What the proofs of several functions use.
pub mod Views
pub mod Name
pub mod Coded
pub mod Marks
