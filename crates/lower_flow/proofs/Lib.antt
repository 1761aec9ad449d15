pub mod Whole
mod Example
