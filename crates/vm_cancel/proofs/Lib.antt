pub mod Blocks
pub mod All
pub mod Under
pub mod Cancelling
