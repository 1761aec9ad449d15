pub mod Views
pub mod Doings
pub mod Operands
pub mod Comes
pub mod Runners
