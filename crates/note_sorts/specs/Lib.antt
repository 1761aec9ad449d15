pub mod Tabled
pub mod Kinds
pub mod Owning
pub mod Classes
