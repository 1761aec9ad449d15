pub mod Types
pub mod Actions
pub mod Callees
pub mod Members
pub mod Statements
pub mod Targets
