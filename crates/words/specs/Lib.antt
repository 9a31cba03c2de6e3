pub mod Digits
pub mod Prints
pub mod Task
pub mod Steps
pub mod Ends
pub mod Call
pub mod Written
