pub mod Steps
mod Arms
mod NoParts
pub mod Halves
mod Aiming
pub mod Unders
pub mod Indices
mod Storing
mod RuleSets
mod Objects
pub mod Seen
