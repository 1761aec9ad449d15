pub mod Wholes
pub mod Members
pub mod OfItems
pub mod Spelled
pub mod Stopping
pub mod Rows
pub mod Few
pub mod RuleSets
