pub mod Stacking
pub mod Started
pub mod Slots
