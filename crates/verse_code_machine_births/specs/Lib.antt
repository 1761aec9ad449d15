pub mod Everywhere
pub mod Stages
pub mod Framed
pub mod Births
pub mod Later
