pub mod Through
pub mod Order
