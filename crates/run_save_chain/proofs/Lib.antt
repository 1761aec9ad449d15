pub mod Numbered
pub mod Meeting
pub mod Orderly
pub mod Births
pub mod Savable
pub mod Chains
pub mod Fitting
