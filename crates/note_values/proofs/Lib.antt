mod Holes
mod Keys
mod Fields
