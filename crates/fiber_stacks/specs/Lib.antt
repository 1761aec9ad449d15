pub mod Layers
pub mod LayersView
pub mod Levels
pub mod LevelsView
pub mod Heads
pub mod HeadsView
