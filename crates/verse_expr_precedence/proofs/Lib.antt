pub mod Chains
pub mod Comparing
pub mod Postfixed
pub mod RuleSets
