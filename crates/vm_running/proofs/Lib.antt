pub mod Lines
pub mod Handed
pub mod Steps
pub mod Unwinding
