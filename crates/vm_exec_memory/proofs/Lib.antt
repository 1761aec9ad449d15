pub mod Handed
pub mod Effects
pub mod Attempts
pub mod Lines
pub mod Stores
