pub mod Spot
pub mod Around
pub mod Searched
pub mod Side
pub mod Calm
pub mod Swept
pub mod After
pub mod Readings
