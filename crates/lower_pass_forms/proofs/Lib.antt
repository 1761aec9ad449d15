pub mod Applied
pub mod Calls
pub mod Finishing
pub mod Callees
pub mod Operators
