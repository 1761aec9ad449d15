pub mod Kept
pub mod Ends
pub mod Acts
pub mod Running
pub mod Runs
pub mod Named
pub mod Later
