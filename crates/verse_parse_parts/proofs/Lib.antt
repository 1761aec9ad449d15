pub mod Steps
pub mod Signatures
pub mod Rows
pub mod RuleSets
