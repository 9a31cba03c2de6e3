-- What the proof of the walk uses.
mod Inverts
mod Binders
mod Walking
mod Turns
mod Calls
