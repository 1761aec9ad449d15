pub mod Births
pub mod Everywhere
pub mod Laws
