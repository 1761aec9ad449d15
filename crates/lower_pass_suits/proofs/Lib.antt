pub mod Spelled
pub mod Suited
pub mod Kept
pub mod Others
pub mod Forms
pub mod Sorted
pub mod Spots
pub mod Whole
