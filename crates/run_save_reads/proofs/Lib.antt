pub mod Meeting
pub mod Values
pub mod Stores
pub mod Tasks
pub mod Together
pub mod Orders
pub mod Runs
