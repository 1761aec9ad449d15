pub mod Looking
pub mod Sharing
pub mod Lists
pub mod Spelling
