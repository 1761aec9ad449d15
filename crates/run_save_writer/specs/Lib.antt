pub mod Entries
pub mod Roles
