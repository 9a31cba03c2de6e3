pub mod Told
pub mod Child
pub mod Steps
pub mod Extraction
