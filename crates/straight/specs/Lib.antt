pub mod Node
pub mod Counts
pub mod Place
