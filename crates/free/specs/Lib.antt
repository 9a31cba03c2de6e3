pub mod Ordered
pub mod Order
pub mod Search
pub mod Rows
pub mod State
pub mod Gather
pub mod Walk
pub mod Whole
