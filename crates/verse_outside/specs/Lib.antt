pub mod Causes
pub mod Held
pub mod Chosen
pub mod Shelf
pub mod Intake
pub mod IntakeView
