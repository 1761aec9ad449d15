pub mod Counted
pub mod Others
pub mod Nodes
pub mod Leaves
pub mod Forms
pub mod Whole
pub mod Example
