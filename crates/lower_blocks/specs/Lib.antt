pub mod Insides
pub mod Codes
pub mod Levels
pub mod Arms
