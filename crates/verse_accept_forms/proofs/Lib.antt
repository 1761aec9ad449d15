pub mod Plain
pub mod Operands
pub mod Indices
pub mod CalleeKinds
pub mod CallForms
pub mod Spawns
pub mod Whole
