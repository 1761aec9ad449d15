pub mod Views
pub mod Parts
pub mod Noted
pub mod Params
