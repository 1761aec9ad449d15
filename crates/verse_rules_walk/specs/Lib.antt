pub mod Around
pub mod Specifiers
pub mod Nodes
pub mod Through
pub mod Views
pub mod Passes
pub mod Order
