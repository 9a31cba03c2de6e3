pub mod Places
pub mod Tally
pub mod Spliced
pub mod Runs
pub mod Beside
pub mod Put
pub mod Work
