mod Examples
pub mod Fitting
pub mod Cutting
pub mod Leading
