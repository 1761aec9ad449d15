pub mod StandSteps
