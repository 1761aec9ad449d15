mod Horizons
mod Signals
mod Reached
pub mod Numbers
mod Spreading
pub mod Settings
mod Ends
mod Acts
pub mod Runs
mod Resumed
pub mod Paired
pub mod Tables
