pub mod Lists
pub mod Leaving
mod Operating
pub mod Running
mod Cancelled
