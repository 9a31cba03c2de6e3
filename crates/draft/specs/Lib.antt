pub mod Draft
pub mod Made
pub mod Steady
pub mod Adding
pub mod Heads
pub mod Writing
pub mod Measured
