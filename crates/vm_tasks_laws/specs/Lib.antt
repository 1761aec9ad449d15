pub mod Slots
pub mod Roses
pub mod Standing
pub mod Cancelling
pub mod Told
pub mod Clocks
pub mod Together
pub mod Laws
