pub mod Steps
pub mod Holding
pub mod Going
pub mod Simple
mod Values
mod Writes
pub mod Marks
mod Calls
mod Tasks
mod Blocks
mod Every
pub mod Tables
mod Parsed
mod Passed
