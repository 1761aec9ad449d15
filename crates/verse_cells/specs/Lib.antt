pub mod View
pub mod Held
pub mod Changes
pub mod Rests
pub mod Lending
