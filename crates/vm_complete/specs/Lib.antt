pub mod Arms
pub mod Groups
pub mod Overs
