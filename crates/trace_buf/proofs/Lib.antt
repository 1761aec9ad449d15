pub mod Passes
pub mod LinePasses
pub mod Standing
pub mod Views
