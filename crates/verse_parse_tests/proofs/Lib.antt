pub mod Lines
pub mod OneFile
