pub mod Lightness
mod Putting
mod Standing
