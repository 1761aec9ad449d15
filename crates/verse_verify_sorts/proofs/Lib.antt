pub mod Climbing
pub mod RuleSets
