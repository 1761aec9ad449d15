pub mod Shapes
pub mod Pairs
