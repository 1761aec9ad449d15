pub mod Signals
pub mod Values
pub mod Turns
pub mod Starts
