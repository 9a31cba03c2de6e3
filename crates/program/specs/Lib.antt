pub mod Field
pub mod Printing
pub mod Starts
