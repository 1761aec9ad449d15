pub mod Tasks
pub mod Nested
pub mod Removing
pub mod Links
pub mod Blocks
pub mod View
pub mod Lends
