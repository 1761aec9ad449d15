pub mod Sorted
pub mod Needs
