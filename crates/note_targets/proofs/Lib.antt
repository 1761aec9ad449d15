mod Halves
mod Levels
mod Storing
