pub mod Owned
pub mod Effects
pub mod Telling
pub mod Types
pub mod Whole
