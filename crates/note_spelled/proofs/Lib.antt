mod Sorts
pub mod Whole
