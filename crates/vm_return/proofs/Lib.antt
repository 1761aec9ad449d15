pub mod Names
pub mod Following
pub mod Returning
pub mod Overs
