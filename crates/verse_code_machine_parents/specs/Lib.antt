pub mod Parents
pub mod Cancelled
