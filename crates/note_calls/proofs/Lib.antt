mod Steps
mod Halves
mod Seen
mod Objects
