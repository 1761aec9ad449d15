pub mod Undoing
pub mod Changing
pub mod Limits
pub mod Making
