pub mod Operands
pub mod Cells
pub mod Answers
