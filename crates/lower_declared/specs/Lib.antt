pub mod Views
pub mod Parts
pub mod Fields
pub mod Enums
