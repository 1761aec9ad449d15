pub mod Compares
pub mod Postfixing
