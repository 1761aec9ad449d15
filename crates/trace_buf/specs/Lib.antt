pub mod Trace
pub mod Passing
pub mod Lines
pub mod Shown
