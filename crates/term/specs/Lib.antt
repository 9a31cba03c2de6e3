pub mod Node
pub mod OnePart
pub mod Shape
pub mod Place
pub mod Seen
pub mod Measured
pub mod Given
pub mod Child
