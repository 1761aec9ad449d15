pub mod Refusing
pub mod OfNames
pub mod Made
pub mod Counting
pub mod Judging
pub mod Once
pub mod Codes
