pub mod States
pub mod Stretches
pub mod Applied
pub mod Noting
pub mod Programs
pub mod Laws
pub mod Rows
