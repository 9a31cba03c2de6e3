mod Waking
mod Firings
