pub mod Turns
mod Beginning
