pub mod Numbers
pub mod Values
pub mod Making
pub mod Paths
pub mod Cells
