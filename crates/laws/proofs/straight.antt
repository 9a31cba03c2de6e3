pub mod StepKept
pub mod Reducing
pub mod Calling
