pub mod Words
pub mod Task
