pub mod Cuts
pub mod NumberSteps
pub mod BytesSteps
