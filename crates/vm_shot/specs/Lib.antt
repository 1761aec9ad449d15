pub mod Spelling
pub mod Cells
pub mod Shooting
