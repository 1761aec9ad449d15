pub mod Between
pub mod Leaves
pub mod Words
