pub mod Parts
mod Copying
mod Holding
