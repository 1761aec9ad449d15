pub mod Views
pub mod Halving
