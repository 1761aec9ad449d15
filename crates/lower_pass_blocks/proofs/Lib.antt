pub mod Binding
pub mod Ways
pub mod Attempted
pub mod Stated
