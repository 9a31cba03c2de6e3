pub mod PublicCalls
pub mod Wrong
