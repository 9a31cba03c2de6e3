-- What document 01 asks to run, computed.
mod Runs
