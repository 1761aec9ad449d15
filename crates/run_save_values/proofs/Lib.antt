pub mod ListSteps
pub mod Steps
