pub mod Texts
pub mod OneRun
