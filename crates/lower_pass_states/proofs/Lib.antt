pub mod Points
pub mod Locals
pub mod Meeting
pub mod Steps
pub mod Writes
pub mod Operands
