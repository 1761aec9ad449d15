pub mod Fields
pub mod Passing
pub mod Numbered
mod Straight
mod Making
