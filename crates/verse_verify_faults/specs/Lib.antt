pub mod Fitting
pub mod Spots
pub mod Stepping
pub mod Faults
pub mod Reading
