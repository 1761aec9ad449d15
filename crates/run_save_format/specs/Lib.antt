pub mod Format
pub mod Values
pub mod Reading
pub mod Whole
pub mod Faults
