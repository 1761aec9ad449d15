pub mod Frames
pub mod Ups
pub mod Standing
pub mod Going
pub mod Meets
pub mod Moving
