pub mod Adding
pub mod Naming
pub mod Growing
pub mod Resumed
