pub mod Unbroken
pub mod Found
pub mod Restores
