pub mod Beside
pub mod Stays
pub mod Contracted
pub mod Parts
pub mod Contracting
