pub mod Telling
pub mod Numbers
pub mod Values
pub mod Stores
pub mod Tasks
pub mod Files
pub mod Whole
