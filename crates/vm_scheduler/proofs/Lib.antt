pub mod Free
pub mod Fines
pub mod Untold
pub mod Running
pub mod Seated
pub mod Ends
