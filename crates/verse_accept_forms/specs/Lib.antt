pub mod Plain
pub mod Callees
