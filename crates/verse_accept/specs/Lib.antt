pub mod Stages
pub mod Fronts
pub mod Ready
pub mod Files
