pub mod CellSteps
pub mod Counting
pub mod Marking
pub mod Ordering
pub mod TaskSteps
