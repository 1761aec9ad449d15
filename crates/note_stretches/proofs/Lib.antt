mod Steps
pub mod Laws
pub mod Loops
pub mod RuleSets
