pub mod Filled
pub mod Putting
pub mod Resting
