pub mod Seen
pub mod Stages
pub mod Accepted
pub mod OneNumber
pub mod Place
pub mod Shape
