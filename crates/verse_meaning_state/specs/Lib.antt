pub mod State
pub mod Waits
pub mod Turns
pub mod Effects
pub mod Texts
