pub mod Lists
pub mod Paths
pub mod Holes
pub mod Trees
pub mod Spots
pub mod Changes
pub mod Younger
pub mod Mirror
pub mod Cancelled
pub mod Climbing
pub mod Deals
pub mod Clocks
pub mod Ticks
pub mod Steps
pub mod Overs
pub mod Endings
pub mod Wakings
mod Examples
