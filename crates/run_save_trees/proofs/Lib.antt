pub mod Firsts
pub mod Arms
pub mod Puts
mod Lists
pub mod Groups
mod Threads
mod Slots
mod Trees
mod Roots
mod Clocks
pub mod Suiting
pub mod Restoring
pub mod Ends
