pub mod Least
pub mod Nothing
