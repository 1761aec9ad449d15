pub mod Ends
pub mod Arms
