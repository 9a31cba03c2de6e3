pub mod TextSize
pub mod FreeSize
pub mod SubstSize
pub mod Parts
