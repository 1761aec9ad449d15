pub mod Passing
pub mod RuleSets
