pub mod ManySteps
pub mod WaitSteps
