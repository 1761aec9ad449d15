pub mod Entering
pub mod Choosing
pub mod Blocks
