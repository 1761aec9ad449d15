pub mod Counts
pub mod Programs
pub mod Laws
