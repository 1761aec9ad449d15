pub mod Kept
pub mod Apart
pub mod Runs
