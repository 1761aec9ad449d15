pub mod Notes
pub mod Rules
pub mod Known
pub mod Kept
pub mod Others
pub mod Laws
