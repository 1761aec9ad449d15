pub mod Unique
pub mod Seps
