pub mod Above
pub mod Sleeping
pub mod Giving
