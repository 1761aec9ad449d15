pub mod Lines
pub mod Dues
pub mod Numbers
pub mod Keeping
mod Examples
