pub mod View
pub mod Deferring
pub mod Gone
pub mod Begun
pub mod Standing
pub mod Ending
pub mod Putting
pub mod Reading
