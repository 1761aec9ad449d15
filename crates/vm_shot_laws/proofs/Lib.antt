pub mod Pairs
pub mod Insertions
pub mod Walking
