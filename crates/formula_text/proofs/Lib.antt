-- What the proof of the call uses.
mod Whole
