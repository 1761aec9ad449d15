mod Inside
pub mod Runs
