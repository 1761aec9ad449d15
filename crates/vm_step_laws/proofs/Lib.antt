pub mod Acts
pub mod Frames
pub mod Going
