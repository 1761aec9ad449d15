pub mod Tallies
pub mod View
