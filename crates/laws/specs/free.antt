pub mod Same
pub mod Occurrences
