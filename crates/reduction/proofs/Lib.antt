mod Ending
mod Calling
