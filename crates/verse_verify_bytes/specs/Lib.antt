pub mod Bytes
pub mod Suits
pub mod Laws
