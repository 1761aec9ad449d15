pub mod Heights
pub mod Whole
