pub mod Armed
pub mod Names
pub mod Counts
pub mod Leaves
pub mod Forms
pub mod Whole
pub mod Example
