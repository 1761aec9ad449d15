pub mod Nodes
pub mod Owners
pub mod Whole
