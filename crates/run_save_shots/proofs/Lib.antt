pub mod Steps
pub mod Lists
mod Examples
