pub mod Leaving
pub mod Courses
pub mod Executions
pub mod Asking
pub mod Cells
pub mod Turns
pub mod Endings
pub mod Counts
