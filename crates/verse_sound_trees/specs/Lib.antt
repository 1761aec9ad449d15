pub mod Names
pub mod Outcomes
pub mod Waiting
pub mod Going
pub mod Deep
pub mod Bounds
