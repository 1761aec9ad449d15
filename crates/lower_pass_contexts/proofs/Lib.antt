pub mod Loops
pub mod Contexts
pub mod Scopes
pub mod After
pub mod Leaving
pub mod Attempts
pub mod Trys
pub mod Deferring
