pub mod Wrote
pub mod Writing
pub mod Rooms
