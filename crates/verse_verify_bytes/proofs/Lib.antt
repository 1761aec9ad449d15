pub mod Numbers
pub mod Lists
pub mod Sorts
pub mod Back
mod Once
mod Spelling
