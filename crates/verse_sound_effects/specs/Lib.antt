pub mod Opening
pub mod Contexts
pub mod Calls
