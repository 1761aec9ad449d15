pub mod Weights
pub mod Places
pub mod Stored
mod Wanting
