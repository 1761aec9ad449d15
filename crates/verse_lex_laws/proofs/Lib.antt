pub mod Runs
pub mod Longest
pub mod Parts
pub mod Spelled
pub mod Files
pub mod Alone
pub mod Broken
pub mod Indented
