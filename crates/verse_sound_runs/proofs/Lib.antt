pub mod Calls
pub mod Due
pub mod Turns
pub mod Steps
pub mod Runs
mod Examples
pub mod Promises
