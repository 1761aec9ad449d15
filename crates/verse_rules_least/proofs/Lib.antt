pub mod Least
pub mod Both
pub mod Ordered
pub mod Refusals
pub mod Codes
