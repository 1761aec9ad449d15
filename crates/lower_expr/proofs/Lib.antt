pub mod Laws
pub mod Closing
pub mod Exits
pub mod Plain
pub mod Whole
pub mod RuleSets
pub mod Scoping
