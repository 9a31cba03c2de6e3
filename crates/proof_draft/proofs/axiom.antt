pub mod Stems
pub mod Opposites
pub mod Axioms
