pub mod Names
pub mod Legals
pub mod Sizes
pub mod Whole
pub mod Ending
