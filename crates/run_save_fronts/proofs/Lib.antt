pub mod Staying
pub mod Numbers
pub mod Values
pub mod Stores
pub mod Tasks
pub mod Whole
pub mod Files
mod Examples
