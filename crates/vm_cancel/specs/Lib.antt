pub mod Clears
pub mod Cancels
