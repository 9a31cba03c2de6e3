pub mod Rust
pub mod RustCases
