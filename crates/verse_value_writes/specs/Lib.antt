pub mod Ends
pub mod Growing
pub mod Changes
pub mod Writes
