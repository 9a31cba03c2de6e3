pub mod Entries
pub mod Entry
pub mod Searching
pub mod Walk
pub mod Planning
pub mod Acts
pub mod Puts
pub mod Whole
