pub mod Lists
pub mod Kept
pub mod View
pub mod Fitting
pub mod Naming
pub mod Spelling
pub mod Keeping
