mod Ended
mod Holes
mod Keys
mod Fields
