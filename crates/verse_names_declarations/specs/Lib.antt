pub mod Known
pub mod Members
pub mod Lines
pub mod Descents
