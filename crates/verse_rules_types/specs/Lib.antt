pub mod Types
pub mod Fitting
pub mod Kinds
pub mod Depths
