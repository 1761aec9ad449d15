pub mod Codes
mod Levels
