pub mod Doings
pub mod Arms
