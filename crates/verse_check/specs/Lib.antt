pub mod Checking
pub mod Views
