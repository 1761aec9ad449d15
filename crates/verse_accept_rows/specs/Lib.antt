pub mod Agreeing
pub mod Found
pub mod Laws
