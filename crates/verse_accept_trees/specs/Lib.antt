pub mod Targets
pub mod Names
pub mod Needs
pub mod Laws
