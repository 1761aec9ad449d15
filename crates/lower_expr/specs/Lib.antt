pub mod Building
pub mod Locals
pub mod Endings
