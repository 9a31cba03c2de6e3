-- What the proof of going on uses.
mod Turning
