pub mod Breaking
pub mod Made
pub mod Naming
pub mod Sound
pub mod Counting
