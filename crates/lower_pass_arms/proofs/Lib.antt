pub mod Branching
pub mod Grouping
pub mod Choosing
