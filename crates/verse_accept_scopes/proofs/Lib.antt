pub mod Rows
pub mod Agreeing
pub mod Holding
pub mod Whole
