-- Document 01's examples and more, computed: a wrong definition in specs/ breaks a row of some table here (must-fail/ has such definitions).
pub mod Notation
mod Patches
mod Forms
mod Steps
mod Straights
pub mod Called
mod Faults
mod Words
mod Lent
mod Extractions
mod Blocks
pub mod Past
mod StoredForm
