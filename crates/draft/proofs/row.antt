pub mod Numbering
pub mod Stems
