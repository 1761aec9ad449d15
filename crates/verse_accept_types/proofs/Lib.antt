mod Bounds
mod Joins
mod Rows
mod Steps
pub mod Refs
pub mod Declared
pub mod Whole
