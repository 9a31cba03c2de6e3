-- What the proof of the search uses, and the crates above.
pub mod Firsts
pub mod Forms
mod Seeks
mod Searching
