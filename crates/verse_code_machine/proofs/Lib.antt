pub mod Paths
mod Examples
mod Weights
mod Ends
pub mod Acts
pub mod Whole
mod BelongingEnds
mod BelongingActs
mod BelongingRuns
pub mod Goings
