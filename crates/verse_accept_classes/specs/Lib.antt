pub mod Owners
pub mod Inheriting
pub mod Referring
pub mod Laws
