pub mod Asking
pub mod Waits
pub mod Starts
pub mod Ends
pub mod Leaving
