pub mod Behind
pub mod Stops
pub mod Answered
