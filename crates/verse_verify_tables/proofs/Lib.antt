pub mod Chains
pub mod Overriding
pub mod RuleSets
