pub mod size
pub mod substitution
pub mod straight
