pub mod Starting
pub mod Writing
pub mod RuleSets
