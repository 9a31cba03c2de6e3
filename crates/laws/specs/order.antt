pub mod NameOrder
pub mod Compare
