pub mod Follows
pub mod Ends
