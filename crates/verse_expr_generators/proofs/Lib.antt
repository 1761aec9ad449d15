pub mod Clausing
pub mod Sums
pub mod RuleSets
