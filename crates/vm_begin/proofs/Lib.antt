pub mod Arms
pub mod Tasks
pub mod Coming
