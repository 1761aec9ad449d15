pub mod Blocks
pub mod Clearing
pub mod Meaning
pub mod Endings
pub mod Keeping
pub mod Losing
