pub mod Forests
pub mod Growing
pub mod Sprouting
pub mod Resumed
