pub mod Codes
pub mod Instances
