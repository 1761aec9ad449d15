pub mod Runs
pub mod Contexts
pub mod Cancels
pub mod Scopes
pub mod Waits
pub mod Races
