pub mod Least
pub mod Both
pub mod Refusals
